pub mod Entries
pub mod Fill
