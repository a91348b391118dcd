pub mod Walks
pub mod Shapes
pub mod Filled
