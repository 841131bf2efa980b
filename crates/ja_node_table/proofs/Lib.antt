pub mod Seen
pub mod Steps
pub mod Views
pub mod Making
pub mod Taken
