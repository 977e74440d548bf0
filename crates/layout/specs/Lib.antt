pub mod Cursors
pub mod Places
pub mod Registers
pub mod Words
