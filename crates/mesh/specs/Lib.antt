pub mod Checks
pub mod Exact
