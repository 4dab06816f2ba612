-- The definitions of this crate.
pub mod Text
pub mod Notation
