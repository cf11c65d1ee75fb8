pub mod Sent
pub mod Gathering
