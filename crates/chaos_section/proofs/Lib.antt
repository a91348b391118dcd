pub mod Numbers
pub mod Spans
pub mod Mosts
pub mod Shifts
pub mod Members
pub mod Owned
pub mod Steps
