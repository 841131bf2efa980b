pub mod More
pub mod Counted
pub mod Ordering
pub mod Reading
