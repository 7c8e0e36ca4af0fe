pub mod Sums
pub mod Accepted
pub mod Listed
