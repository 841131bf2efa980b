pub mod Reads
pub mod InnerPool
pub mod InnerNotes
pub mod InnerMembers
