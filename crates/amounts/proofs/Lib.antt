pub mod Products
pub mod Stored
pub mod Sums
pub mod Shared
pub mod Ranged
pub mod Traced
