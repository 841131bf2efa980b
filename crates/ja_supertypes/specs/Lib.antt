pub mod Supertypes
pub mod Faults
pub mod LibraryTypes
pub mod InnerRows
pub mod InnerForeign
pub mod InnerIndex
pub mod InnerTypes
