pub mod Reads
pub mod Waits
