pub mod Scan
pub mod Addresses
pub mod FieldList
pub mod Answers
