pub mod Inner
pub mod Stages
