pub mod Joined
pub mod Parts
