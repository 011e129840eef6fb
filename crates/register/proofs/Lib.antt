-- Lemmas that the proofs of the functions share.
pub mod Writes
pub mod Stepping
