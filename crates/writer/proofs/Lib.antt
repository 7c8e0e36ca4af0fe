pub mod Records
pub mod Questions
pub mod Written
