pub mod Rows
pub mod Placed
pub mod Needs
pub mod Preparing
pub mod Laws
