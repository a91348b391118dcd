pub mod Tables
pub mod Fits
pub mod SlotLaws
pub mod Laws
