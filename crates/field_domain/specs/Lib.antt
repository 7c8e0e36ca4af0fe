pub mod Domain
