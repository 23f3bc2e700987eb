pub mod Operated
pub mod Examples
