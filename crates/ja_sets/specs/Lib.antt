pub mod Sets
pub mod InnerWords
pub mod InnerRows
