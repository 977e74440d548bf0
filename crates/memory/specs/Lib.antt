pub mod Byte
pub mod Items
pub mod Reads
pub mod Refusals
pub mod Sources
