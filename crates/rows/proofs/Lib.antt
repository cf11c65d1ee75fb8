pub mod Words
pub mod Lists
pub mod Moves
pub mod Tables
pub mod Lasting
pub mod Inserts
pub mod Laws
pub mod Arrays
