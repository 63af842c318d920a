pub mod Parts
pub mod Contents
pub mod Asks
pub mod AsksKept
