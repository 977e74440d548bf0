pub mod Decodings
pub mod Encodings
pub mod Laws
