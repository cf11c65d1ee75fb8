pub mod Each
pub mod Fill
pub mod Gathered
pub mod Staying
