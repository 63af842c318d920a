pub mod Computed
pub mod Sized
