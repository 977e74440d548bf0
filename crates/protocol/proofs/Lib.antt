pub mod Back
pub mod Values
pub mod Numbers
pub mod Pairs
