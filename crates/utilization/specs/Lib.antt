pub mod Utilization
pub mod Utilized
