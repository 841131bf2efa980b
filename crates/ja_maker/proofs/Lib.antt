pub mod Chains
pub mod Constructors
pub mod Entries
pub mod Wholes
