-- The definitions of this crate.
pub mod Calls
pub mod Table
