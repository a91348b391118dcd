pub mod Doing
pub mod Acting
pub mod Rounding
pub mod Placing
pub mod Ending
pub mod Finishing
