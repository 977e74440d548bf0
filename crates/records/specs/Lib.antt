pub mod Refusals
pub mod Spans
