pub mod Clauses
pub mod Ends
pub mod Told
pub mod Orders
pub mod Frames
pub mod Thrown
pub mod Work
pub mod Aim
