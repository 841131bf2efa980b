pub mod Values
pub mod Flags
pub mod Squares
pub mod Next
pub mod Members
