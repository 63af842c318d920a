pub mod Columns
pub mod Cuts
pub mod CutsKept
