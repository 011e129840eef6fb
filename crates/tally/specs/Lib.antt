-- What the countdown does, and its laws.
pub mod Countdown
pub mod Laws
