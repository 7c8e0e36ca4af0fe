pub mod Ways
pub mod Safe
