pub mod Safe
pub mod Figures
