pub mod Printing
pub mod InRun
pub mod InPlan
