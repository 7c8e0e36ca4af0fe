pub mod Tests
pub mod Bounds
pub mod Exact
