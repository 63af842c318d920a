pub mod Judgements
pub mod Stops
pub mod Courses
pub mod Askings
pub mod Tallies
pub mod Settlements
pub mod Words
