pub mod Scheduled
pub mod Schedules
pub mod Agreement
