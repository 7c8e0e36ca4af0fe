pub mod Members
pub mod MembersResult
pub mod Accepted
