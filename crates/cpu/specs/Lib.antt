pub mod Effects
pub mod Performance
pub mod Processors
