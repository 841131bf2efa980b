pub mod Tree
pub mod Word
pub mod Node
pub mod Machine
