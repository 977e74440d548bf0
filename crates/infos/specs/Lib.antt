pub mod Codes
pub mod Codings
pub mod Infos
pub mod Listings
pub mod Refusals
pub mod Sequences
