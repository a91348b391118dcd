pub mod Readying
pub mod Running
pub mod Answered
pub mod Heading
