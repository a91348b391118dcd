pub mod Walks
pub mod Handing
pub mod Blocks
pub mod Firsts
pub mod Works
pub mod Desks
pub mod Putting
pub mod Listing
