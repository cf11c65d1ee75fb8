pub mod Targets
pub mod Room
pub mod Words
