pub mod Made
pub mod Back
