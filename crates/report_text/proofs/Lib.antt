pub mod ReportText
pub mod Length
