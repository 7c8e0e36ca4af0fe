pub mod Question
pub mod Reading
