pub mod Rules
pub mod UseRows
pub mod Verdict
pub mod Steps
pub mod Simulation
pub mod Uses
pub mod Agree
pub mod Getters
pub mod Result
mod Worked
