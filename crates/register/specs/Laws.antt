-- The laws, with their proofs. They stand in specs since a sum and a model hold the proofs of their laws.
pub mod Places
pub mod Equality
pub mod Summing
pub mod Undoing
