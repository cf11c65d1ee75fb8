pub mod Ticks
pub mod Ups
