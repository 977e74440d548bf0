pub mod Bytes
pub mod Working
