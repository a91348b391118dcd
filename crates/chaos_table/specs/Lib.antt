pub mod Pages
pub mod Noting
pub mod Laws
