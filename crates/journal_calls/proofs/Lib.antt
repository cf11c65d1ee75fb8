pub mod Turning
pub mod Plain
