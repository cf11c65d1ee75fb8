pub mod Laws
pub mod Example
pub mod Names
