-- The layout of a job, and the rule by which bytes are judged.
pub mod Numbers
pub mod Fields
pub mod Programs
pub mod Jobs
pub mod Judging
pub mod Laws
