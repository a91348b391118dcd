pub mod Carried
pub mod PhaseReading
pub mod RunReading
pub mod StepReading
pub mod DataLetters
pub mod InspectionLetters
