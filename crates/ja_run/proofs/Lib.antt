pub mod Fronts
pub mod Judged
pub mod Told
pub mod Endings
