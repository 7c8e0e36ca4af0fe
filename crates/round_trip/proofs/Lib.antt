pub mod Present
pub mod Only
pub mod Size
pub mod Unread
pub mod Back
pub mod ReadBack
pub mod NoEffect
