pub mod Accepted
pub mod Passes
pub mod Sizes
pub mod Surveys
