pub mod Functions
pub mod Meaning
pub mod Variables
pub mod Room
pub mod Copies
pub mod Inner
pub mod Workers
