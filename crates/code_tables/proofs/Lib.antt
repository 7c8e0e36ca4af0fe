pub mod Bars
pub mod Slenderness
pub mod Mesh
