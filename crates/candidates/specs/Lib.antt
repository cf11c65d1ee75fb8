pub mod Entries
pub mod Selection
pub mod OnePass
pub mod Laws
