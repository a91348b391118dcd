pub mod Faults
pub mod Names
pub mod Scalars
pub mod Scope
pub mod Heads
