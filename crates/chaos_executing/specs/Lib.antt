pub mod Rows
pub mod Ghosts
pub mod Counts
pub mod InRun
