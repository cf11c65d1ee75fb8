pub mod State
pub mod Decisions
pub mod Calls
