pub mod Formulas
pub mod Made
pub mod Inner
