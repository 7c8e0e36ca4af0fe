pub mod Bytes
pub mod Words
pub mod Walk
pub mod Row
