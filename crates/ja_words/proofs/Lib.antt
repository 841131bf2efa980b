pub mod Asked
pub mod Digits
pub mod Given
pub mod Listed
