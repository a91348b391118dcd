pub mod Digits
pub mod Numbers
pub mod RowFacts
pub mod Worked
