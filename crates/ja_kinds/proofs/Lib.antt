mod Stacks
pub mod Effects
pub mod Order
pub mod Monotone
mod Hands
pub mod Visits
pub mod Words
pub mod Opcodes
pub mod Profile
pub mod Starts
pub mod OfClass
mod Firsts
pub mod OneAnswer
pub mod Reached
pub mod Moves
pub mod Wide
pub mod Places
