pub mod Asks
pub mod Dealing
pub mod Telling
pub mod Laws
