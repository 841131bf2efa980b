pub mod Content
pub mod Rows
pub mod Defaults
pub mod File
pub mod Means
pub mod InnerReading
pub mod InnerIndex
