pub mod Refusals
pub mod Tables
pub mod Windows
