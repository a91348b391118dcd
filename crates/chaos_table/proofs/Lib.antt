pub mod Noted
pub mod Placed
pub mod Telling
pub mod OfLayout
