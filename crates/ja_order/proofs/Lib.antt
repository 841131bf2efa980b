pub mod Locals
pub mod Checked
pub mod Kept
pub mod Renamed
