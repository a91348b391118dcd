pub mod Answered
pub mod Ending
pub mod Reading
pub mod Signed
pub mod WordLaws
