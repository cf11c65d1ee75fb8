pub mod First
pub mod Asking
