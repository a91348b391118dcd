pub mod Letters
pub mod Places
pub mod StepEnds
pub mod PhaseBegins
pub mod LetterLaws
pub mod Walking
