pub mod Septets
pub mod Moved
pub mod Encoded
pub mod Examples
