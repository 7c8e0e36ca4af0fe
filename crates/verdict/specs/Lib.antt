pub mod Built
pub mod Verdict
