pub mod ScheduleBytes
pub mod FieldNumbers
