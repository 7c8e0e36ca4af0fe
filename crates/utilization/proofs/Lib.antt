pub mod Figures
pub mod Utilized
