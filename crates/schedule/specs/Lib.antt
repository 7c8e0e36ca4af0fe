pub mod Schedule
pub mod Validated
