pub mod Accepted
pub mod Reached
pub mod ReachedLaws
pub mod KnownLaws
pub mod Standing
pub mod PlaceLaws
