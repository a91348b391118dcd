pub mod Effects
pub mod Executions
pub mod Keeping
pub mod Parts
pub mod Starting
