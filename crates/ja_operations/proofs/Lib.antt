mod Members
mod Words
mod FirstRows
pub mod OneOperation
pub mod Above
pub mod Agree
pub mod ShuffleAgrees
pub mod AgreeAll
pub mod Sound
pub mod Profiled
pub mod Categorized
