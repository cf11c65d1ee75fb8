pub mod Turns
pub mod Shared
