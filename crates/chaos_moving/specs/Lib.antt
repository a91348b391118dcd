pub mod Pairs
pub mod Asks
pub mod Stages
pub mod IsMoving
pub mod InRun
