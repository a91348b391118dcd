pub mod Options
pub mod Uses
pub mod Asked
pub mod ClapCommand
pub mod ClapRows
pub mod Shown
