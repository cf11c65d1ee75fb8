pub mod LeadingBits
pub mod Rows
pub mod CutPoints
pub mod Meaning
pub mod Digits
pub mod Longest
