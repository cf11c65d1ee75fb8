pub mod Answering
pub mod Stepping
pub mod Running
pub mod Replaying
