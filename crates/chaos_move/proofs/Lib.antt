pub mod Arriving
pub mod Back
pub mod Taken
