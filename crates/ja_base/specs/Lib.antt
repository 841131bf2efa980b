pub mod Refusal
pub mod Cause
pub mod Kind
pub mod Limit
pub mod AccessFlags
pub mod Tag
pub mod Descriptor
pub mod Index
