pub mod FieldCheck
