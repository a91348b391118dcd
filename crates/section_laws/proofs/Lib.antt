pub mod Reached
pub mod Homed
pub mod Asks
