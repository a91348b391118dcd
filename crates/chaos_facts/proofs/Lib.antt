pub mod Exact
pub mod Owned
