pub mod Instants
pub mod Schedule
pub mod Readings
