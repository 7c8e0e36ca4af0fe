pub mod Lent
pub mod LentSlots
