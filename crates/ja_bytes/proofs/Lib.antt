pub mod TextParts
pub mod ClassName
pub mod FieldText
pub mod Stuck
pub mod Language
pub mod MethodText
pub mod DescParts
pub mod Exact
mod FieldTypes
