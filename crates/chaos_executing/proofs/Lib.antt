pub mod Tests
pub mod Tables
pub mod Owned
pub mod Known
pub mod Values
pub mod Counting
pub mod Phases
