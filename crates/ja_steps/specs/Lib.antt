pub mod Led
pub mod Ends
pub mod Wide
pub mod Inner
