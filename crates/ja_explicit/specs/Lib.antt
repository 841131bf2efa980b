pub mod Given
pub mod Tables
pub mod Faults
pub mod InnerWords
pub mod InnerSteps
pub mod InnerStarts
pub mod InnerRules
pub mod InnerRounds
