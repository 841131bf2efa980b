pub mod Steps
pub mod Judged
pub mod Checks
pub mod Taken
pub mod Asked
