-- The laws of the layout of a job, proved.
pub mod Numbers
pub mod Chains
pub mod Fields
pub mod Heads
pub mod Due
pub mod Programs
pub mod Offsets
pub mod Parts
pub mod Placing
pub mod Writing
pub mod Accepting
pub mod Values
pub mod TwelveBytes
pub mod Example
