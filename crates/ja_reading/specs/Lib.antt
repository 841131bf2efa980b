pub mod Judgement
pub mod Failing
pub mod Sizes
pub mod Judged
pub mod Unread
