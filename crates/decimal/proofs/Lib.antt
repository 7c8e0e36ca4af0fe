pub mod Put
pub mod Decimal
