pub mod Bounds
pub mod Coding
pub mod Compiled
pub mod Filling
pub mod Laying
