pub mod NameSteps
pub mod LineSteps
pub mod LineCounts
pub mod VerdictProofs
pub mod NamesFew
