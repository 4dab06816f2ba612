-- The laws and theorems of this crate.
pub mod Laws
pub mod Finding
pub mod Appending
pub mod Theorems
