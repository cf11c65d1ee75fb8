pub mod Gathers
pub mod Frames
pub mod Owns
