pub mod InnerWriting
pub mod InnerConstructor
