pub mod Links
pub mod Places
pub mod Flows
pub mod Operations
pub mod Calls
pub mod LibraryCalls
pub mod Starts
pub mod Events
