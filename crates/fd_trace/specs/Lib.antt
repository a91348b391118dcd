pub mod Sizes
pub mod Outcomes
pub mod Events
pub mod Way
