pub mod Kinds
pub mod States
pub mod Laws
