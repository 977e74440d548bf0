pub mod Back
pub mod Decoding
pub mod Laws
