-- The laws and theorems of this crate.
pub mod Decimal
pub mod Laws
pub mod Theorems
