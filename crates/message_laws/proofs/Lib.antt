pub mod Fuel
pub mod ReadBack
pub mod Refusals
pub mod Told
pub mod ByRule
