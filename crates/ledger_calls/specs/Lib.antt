pub mod Values
pub mod Records
pub mod Calls
