pub mod Asked
pub mod Columns
pub mod Jobs
pub mod Outcomes
