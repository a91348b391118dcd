pub mod Blocked
pub mod KeptLists
pub mod PartLists
