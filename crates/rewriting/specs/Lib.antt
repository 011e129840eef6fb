-- What the contracts of the rewriting machine cite, and the laws.
pub mod Ranges
pub mod Tableau
pub mod Shape
pub mod Occurs
pub mod Search
pub mod Conversion
pub mod Splice
pub mod Step
pub mod Relation
pub mod Laws
