-- The laws and theorems of this crate.
pub mod Exact
pub mod Laws
pub mod Said
pub mod Theorems
