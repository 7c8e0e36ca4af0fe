pub mod Vectors
pub mod Row
