pub mod Parameters
pub mod Bounds
pub mod Clauses
