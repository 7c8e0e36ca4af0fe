pub mod Named
