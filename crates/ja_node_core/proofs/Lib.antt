pub mod Words
pub mod Meanings
pub mod Reduced
pub mod Functions
pub mod Trees
pub mod Claims
pub mod Known
pub mod Runs
