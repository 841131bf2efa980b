pub mod FirstSeen
pub mod Ascending
pub mod Inside
mod Steps
mod Outline
mod Absorbing
pub mod Found
pub mod Whole
pub mod Initializers
