pub mod Lists
pub mod Writing
pub mod Reading
pub mod Amounts
pub mod Back
pub mod Exact
