pub mod Bounds
pub mod Forces
pub mod Tests
pub mod Capacity
pub mod Exact
