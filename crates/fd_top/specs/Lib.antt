pub mod Made
pub mod Outcomes
pub mod Ready
pub mod Answers
pub mod Threads
pub mod Headline
