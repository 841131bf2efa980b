pub mod Rules
pub mod InnerWorking
