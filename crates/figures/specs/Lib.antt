pub mod Marks
pub mod Cuts
pub mod Numbers
pub mod Tokens
