pub mod LeastLaws
pub mod Counting
pub mod ExampleFacts
pub mod Loads
pub mod Empty
pub mod Membership
pub mod Reasons
pub mod MorePositions
pub mod Joint
pub mod Kept
mod Shared
