pub mod Reads
pub mod Begun
