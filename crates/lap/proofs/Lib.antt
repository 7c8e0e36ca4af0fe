pub mod Bounds
pub mod Exact
