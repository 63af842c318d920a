pub mod Decides
pub mod Tabling
