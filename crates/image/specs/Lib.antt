pub mod Places
pub mod Faults
pub mod Laws
