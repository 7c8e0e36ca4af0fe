pub mod Placed
pub mod InSlots
pub mod Unread
