-- The laws and theorems of this crate.
pub mod Laws
pub mod Reading
pub mod Examples
