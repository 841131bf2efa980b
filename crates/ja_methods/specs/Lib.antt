pub mod Places
pub mod Handlers
pub mod Method
pub mod Sites
pub mod Refusal
pub mod Whole
pub mod InnerSites
