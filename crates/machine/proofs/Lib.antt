-- Lemmas that the crates of machines share.
pub mod Made
