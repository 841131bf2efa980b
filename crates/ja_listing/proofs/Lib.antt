pub mod Glyphs
pub mod Words
pub mod Numbers
pub mod Scopes
pub mod Listings
pub mod Kept
pub mod AllItems
pub mod Ending
