pub mod Order
pub mod Names
pub mod Full
