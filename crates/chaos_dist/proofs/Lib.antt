pub mod Formulas
pub mod Examples
