pub mod Outcome
pub mod Safe
