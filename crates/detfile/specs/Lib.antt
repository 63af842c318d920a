pub mod Refusals
pub mod Keys
pub mod Names
pub mod Values
pub mod Lines
pub mod Walks
pub mod Files
pub mod Verdicts
