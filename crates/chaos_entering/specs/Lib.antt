pub mod Behind
pub mod Coming
pub mod Entering
pub mod Enters
pub mod Sending
pub mod StageLaws
pub mod Standing
pub mod State
