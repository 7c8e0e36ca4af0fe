pub mod AnswerRecord
pub mod UtilizationRecord
