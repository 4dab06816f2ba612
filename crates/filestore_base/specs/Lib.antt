-- The definitions of this crate.
pub mod Meaning
pub mod Rules
