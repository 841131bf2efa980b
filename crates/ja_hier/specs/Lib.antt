pub mod Faults
pub mod LookUps
pub mod Members
pub mod InnerIndex
