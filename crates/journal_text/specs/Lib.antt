pub mod Texts
pub mod Journals
