pub mod Tallies
pub mod Agrees
pub mod Lines
pub mod Sentences
