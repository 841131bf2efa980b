pub mod Reading
pub mod Text
pub mod Longest
pub mod DescriptorText
pub mod Desc
pub mod InnerDesc
