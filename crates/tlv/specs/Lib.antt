-- The definitions of this crate.
pub mod Kinds
pub mod Rules
pub mod Short
