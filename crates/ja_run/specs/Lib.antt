pub mod Status
pub mod Text
pub mod Words
pub mod Report
pub mod Writing
pub mod Due
pub mod Failing
