pub mod Problem
pub mod Cells
pub mod Solved
pub mod Settled
pub mod Reads
pub mod Nodes
pub mod InnerMarks
