pub mod Cutting
pub mod Calling
