pub mod Refusals
pub mod Counts
pub mod Example
