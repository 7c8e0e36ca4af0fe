pub mod Steps
pub mod Exact
pub mod ShearCheck
