pub mod Rule
pub mod Seats
pub mod Mails
pub mod Opens
