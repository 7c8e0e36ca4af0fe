pub mod InRange
pub mod Present
