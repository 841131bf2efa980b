pub mod Signatures
pub mod Fields
pub mod Entries
pub mod Initializers
pub mod Classes
pub mod InnerSupers
pub mod InnerSignatures
