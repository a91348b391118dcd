pub mod Value
pub mod Operators
pub mod Combining
pub mod CombineLaws
pub mod Lists
pub mod Roles
pub mod ShortName
