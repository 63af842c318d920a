pub mod Refusals
pub mod Slips
pub mod Postings
pub mod Settlings
pub mod Histories
pub mod Bills
pub mod Calls
pub mod Words
