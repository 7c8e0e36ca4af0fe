pub mod Septets
pub mod Rows
