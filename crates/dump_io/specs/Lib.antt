-- The definitions of this crate.
pub mod Input
pub mod Known
pub mod Next
