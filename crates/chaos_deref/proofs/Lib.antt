pub mod Steps
pub mod Composed
pub mod OfLayout
