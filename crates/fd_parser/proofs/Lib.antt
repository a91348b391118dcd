pub mod Depths
pub mod Answers
