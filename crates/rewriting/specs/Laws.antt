-- The laws, with their proofs. They stand in specs since a sum and a model hold the proofs of their laws.
pub mod Bytewise
pub mod Equality
pub mod Summing
pub mod Shaping
pub mod Searching
pub mod Splicing
pub mod Spelling
pub mod Undoing
