pub mod Ordered
pub mod Beside
