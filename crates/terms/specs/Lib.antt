pub mod Limits
pub mod Told
pub mod Determinants
pub mod Answers
pub mod Decisions
pub mod DecisionsKept
pub mod Sources
