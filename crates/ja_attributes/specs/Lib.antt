pub mod Part
pub mod Attribute
pub mod Faults
pub mod InnerSteps
