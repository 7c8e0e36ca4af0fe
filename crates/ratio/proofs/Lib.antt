pub mod Division
pub mod Nearest
