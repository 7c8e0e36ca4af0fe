pub mod Held
pub mod Part
