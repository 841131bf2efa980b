pub mod Texts
pub mod Descriptors
pub mod Standing
pub mod Few
pub mod Writable
pub mod Pushes
pub mod Names
