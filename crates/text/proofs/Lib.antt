pub mod Bytes
pub mod Put
pub mod Decimal
pub mod Split
mod Examples
