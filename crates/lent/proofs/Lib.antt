pub mod Replies
pub mod Awaits
pub mod Hears
pub mod Turned
