pub mod Grown
pub mod Causes
pub mod Inner
