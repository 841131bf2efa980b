pub mod Contents
pub mod Count
pub mod Edge
pub mod Front
pub mod MemFolder
pub mod MemOut
pub mod Walk
