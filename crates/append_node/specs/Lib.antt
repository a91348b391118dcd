pub mod Telling
pub mod Keys
pub mod Begins
pub mod Node
pub mod Jobs
pub mod NodeLaws
pub mod Ending
pub mod Kept
