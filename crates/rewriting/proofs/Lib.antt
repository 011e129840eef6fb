-- Lemmas that the proofs of the functions share.
pub mod Shifts
pub mod Ranges
pub mod Starts
pub mod Padded
pub mod Substituting
