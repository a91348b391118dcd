pub mod LoopLetters
