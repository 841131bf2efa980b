pub mod Among
pub mod OneAnswer
pub mod Places
pub mod Reading
pub mod Categorized
