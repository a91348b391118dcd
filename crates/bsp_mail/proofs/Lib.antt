pub mod Steps
pub mod Lists
pub mod Seating
pub mod Settles
pub mod Opens
pub mod Wholes
