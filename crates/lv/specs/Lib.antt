-- The definitions of this crate.
pub mod Rules
pub mod Short
