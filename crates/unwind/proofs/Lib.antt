pub mod Carrying
pub mod Chains
pub mod Codes
pub mod Scanning
