pub mod Member
pub mod Accepted
pub mod OneWay
