pub mod Words
pub mod Programs
pub mod Scenes
pub mod Witness
pub mod LetterWords
pub mod Plans
