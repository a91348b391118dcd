pub mod Walks
pub mod OwnRows
pub mod Filling
pub mod Owned
pub mod CameIn
pub mod Lines
pub mod InPlan
