pub mod Growth
pub mod Carried
