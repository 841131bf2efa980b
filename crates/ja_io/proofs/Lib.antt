pub mod Appending
pub mod Named
