pub mod Accepted
pub mod OneWay
