pub mod PayloadParts
pub mod Entries
pub mod Tables
pub mod ReadParts
pub mod OneReading
pub mod Exact
