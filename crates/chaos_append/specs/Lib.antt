pub mod Asked
pub mod Reading
pub mod Letters
pub mod Outcomes
