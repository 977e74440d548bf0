pub mod Bases
pub mod Carrying
pub mod Chains
pub mod Codes
pub mod Epilogues
pub mod Frames
pub mod Undoing
