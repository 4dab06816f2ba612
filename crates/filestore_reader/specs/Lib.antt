-- The definitions of this crate.
pub mod Inner
pub mod Rules
