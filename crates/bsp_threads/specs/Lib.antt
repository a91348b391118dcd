pub mod Seats
pub mod Drives
pub mod Rounds
pub mod Alls
pub mod Due
