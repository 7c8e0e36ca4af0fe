pub mod Varint
pub mod Encoding
pub mod Placed
pub mod Moved
