pub mod Line
pub mod ParsedLine
