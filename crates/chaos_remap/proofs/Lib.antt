pub mod Composition
pub mod Families
pub mod Steps
