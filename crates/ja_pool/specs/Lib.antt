pub mod Entry
pub mod Table
pub mod Pool
pub mod InnerSlot
pub mod InnerShape
pub mod Constant
pub mod InnerKept
