pub mod Instants
pub mod Schedule
pub mod Counted
pub mod Readings
