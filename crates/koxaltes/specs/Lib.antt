pub mod Entries
pub mod UtilizationEntry
