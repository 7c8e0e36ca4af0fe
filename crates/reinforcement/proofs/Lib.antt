pub mod Reinforcement
