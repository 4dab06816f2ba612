-- The definitions of this crate.
pub mod Laid
pub mod Writing
