pub mod WordLaws
pub mod Reading
pub mod Ending
pub mod Answered
