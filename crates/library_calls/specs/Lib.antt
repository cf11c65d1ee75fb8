pub mod Messages
pub mod Choices
pub mod Budgets
pub mod Schedules
pub mod Lines
