pub mod Readings
pub mod Files
pub mod Lines
pub mod Endings
pub mod EndLaws
pub mod Unusable
pub mod Comes
