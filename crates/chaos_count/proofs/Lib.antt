pub mod Stages
pub mod Right
