-- What the contracts of the register machine cite, and the laws.
pub mod Ranges
pub mod Registers
pub mod Tableau
pub mod Step
pub mod Laws
