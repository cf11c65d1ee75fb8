pub mod Brought
pub mod Replies
pub mod Calls
