pub mod Concrete
pub mod Steel
pub mod Bounds
