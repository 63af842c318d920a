pub mod Chunks
pub mod Placing
pub mod Forming
pub mod Meaning
pub mod Imaging
