pub mod Counting
pub mod Layout
pub mod Rounds
pub mod LayoutLaws
pub mod Owners
pub mod OwnersLaws
pub mod Homes
pub mod Buckets
