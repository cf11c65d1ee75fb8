pub mod Ranges
pub mod Lines
pub mod Cutting
pub mod Inputs
