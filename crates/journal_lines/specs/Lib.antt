pub mod Forms
pub mod Lines
pub mod Texts
