pub mod Dealing
pub mod Walking
pub mod Met
pub mod Inspecting
pub mod PhaseLaws
