pub mod Deals
pub mod Steps
pub mod Orders
pub mod Letters
