pub mod Blocks
pub mod Index
pub mod Readers
pub mod Layouts
pub mod Inner
