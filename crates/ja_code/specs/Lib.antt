pub mod Number
pub mod Opcode
pub mod Mnemonic
pub mod Behaviour
pub mod Bytes
pub mod Grammar
pub mod Faults
pub mod InnerReading
