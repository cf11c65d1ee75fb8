pub mod Stores
pub mod Spans
pub mod Groups
pub mod VarintAgain
pub mod Frames
pub mod EntryByEntry
pub mod Listed
