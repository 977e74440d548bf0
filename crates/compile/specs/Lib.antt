pub mod Compilings
pub mod Writables
