pub mod Days
pub mod Refusals
pub mod Jobs
