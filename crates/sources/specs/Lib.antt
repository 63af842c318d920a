pub mod Records
pub mod RecordsKept
pub mod Fills
pub mod FillsKept
