-- Lemmas of this crate.
pub mod Counting
pub mod Lines
pub mod Reading
