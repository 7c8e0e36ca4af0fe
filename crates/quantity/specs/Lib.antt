pub mod All
pub mod Rounding
pub mod Fraction
pub mod Safe
pub mod Unit
