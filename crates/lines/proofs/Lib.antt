pub mod Gathering
pub mod Feeds
