pub mod Answers
pub mod Loops
pub mod Listing
pub mod Keeping
pub mod Passes
pub mod Bounds
pub mod Kept
pub mod Promises
