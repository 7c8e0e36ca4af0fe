pub mod FieldsAt
pub mod Taken
pub mod FieldsResult
