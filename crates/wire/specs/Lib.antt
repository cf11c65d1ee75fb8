pub mod Varint
pub mod Frame
pub mod Lists
pub mod Packed
