pub mod Made
pub mod Ready
pub mod Relations
