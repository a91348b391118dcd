pub mod Order
pub mod Tests
pub mod Rows
pub mod Dealt
pub mod Fronts
pub mod Counts
pub mod Pieces
