mod Least
pub mod Trees
pub mod Walking
