pub mod Sums
pub mod Triples
pub mod Readings
pub mod Formulas
pub mod Workings
pub mod Tables
pub mod Traces
