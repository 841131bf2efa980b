pub mod EntryLoop
pub mod Steps
pub mod Exact
pub mod PoolLaws
pub mod CodeLaws
pub mod LayoutLaws
pub mod FrameLaws
pub mod Utf8Laws
pub mod MethodLaws
mod Descriptors
mod Counted
mod AttributesExact
pub mod PartsExact
mod MembersSpelled
mod FileSpelled
