pub mod Outcomes
pub mod Slots
