pub mod EnterPrints
pub mod Finding
pub mod GroupLaws
pub mod Sent
pub mod StageSteps
pub mod StepEntered
