pub mod Sized
pub mod Inner
pub mod Searches
pub mod Covers
