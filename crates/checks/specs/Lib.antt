pub mod MemberOutcome
pub mod LineClaim
