pub mod Drafts
pub mod Elements
pub mod Bodies
