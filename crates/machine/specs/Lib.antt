-- What tableaux and machines mean.
pub mod Sum
pub mod Model
