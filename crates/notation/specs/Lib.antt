pub mod Figures
