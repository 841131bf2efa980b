pub mod Composed
pub mod Ascending
pub mod Moves
pub mod Steps
pub mod Searches
pub mod Memos
pub mod Inner
