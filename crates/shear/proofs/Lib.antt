pub mod Bounds
pub mod Tests
pub mod Exact
pub mod ShearCheck
pub mod NearSupport
