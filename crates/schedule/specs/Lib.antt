-- What the contracts of this crate cite.
pub mod Sizes
pub mod Moves
pub mod Digits
pub mod Live
pub mod Slots
pub mod Schedule
pub mod Answers
pub mod Written
