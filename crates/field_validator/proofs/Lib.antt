pub mod Checked
pub mod Fields
pub mod Held
pub mod Taken
