pub mod More
pub mod Few
