pub mod Message
pub mod Encoding
