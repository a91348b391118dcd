pub mod Reads
pub mod Begun
pub mod Depth
pub mod Answer
