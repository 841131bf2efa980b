pub mod Read
pub mod Ways
pub mod Shapes
