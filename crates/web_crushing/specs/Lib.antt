pub mod Steps
pub mod Exact
