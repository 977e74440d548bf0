pub mod Items
pub mod Sources
