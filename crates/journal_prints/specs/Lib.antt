pub mod Forms
pub mod Outputs
pub mod Room
