pub mod Most
pub mod Blocks
