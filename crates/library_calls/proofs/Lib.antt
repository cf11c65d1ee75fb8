pub mod Messaging
pub mod Choosing
pub mod Lining
