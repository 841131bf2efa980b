pub mod Fitting
pub mod Kept
pub mod LibraryAnswers
pub mod NormalEnds
pub mod OtherEnds
pub mod WholeEnds
pub mod Telling
pub mod Framing
pub mod Outside
pub mod Summing
pub mod Working
mod Empty
