pub mod Begins
pub mod BeginsLaws
