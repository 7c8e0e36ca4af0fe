pub mod CaseMembers
pub mod Cases
