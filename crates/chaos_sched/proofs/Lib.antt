pub mod Agreement
pub mod Each
pub mod Rows
pub mod Small
