pub mod Report
pub mod ReportClaim
