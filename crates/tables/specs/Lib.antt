pub mod Entries
pub mod Modules
pub mod Refusals
pub mod Tables
