pub mod LeadingBits
pub mod Ranges
pub mod Words
pub mod Multiaddr
