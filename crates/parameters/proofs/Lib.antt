pub mod Usable
pub mod Clauses
