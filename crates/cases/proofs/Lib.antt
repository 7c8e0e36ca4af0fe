pub mod Cases
pub mod NearSupport
