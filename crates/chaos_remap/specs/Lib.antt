pub mod Remapping
pub mod Rows
pub mod Remapped
pub mod Composition
