pub mod Text
pub mod ParsedLine
pub mod Length
