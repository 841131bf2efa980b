pub mod Marks
pub mod Cuts
pub mod Sampled
pub mod Entered
pub mod Projects
