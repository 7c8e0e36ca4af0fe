pub mod Rounded
pub mod Bounds
pub mod Clause
pub mod Safe
