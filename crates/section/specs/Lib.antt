pub mod Section
pub mod Bounded
