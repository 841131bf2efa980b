pub mod Matrices
pub mod InnerChunks
