pub mod Bounds
pub mod Interval
pub mod Exact
