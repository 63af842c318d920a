pub mod CutSteps
pub mod Exactness
