pub mod Meeting
pub mod Operations
pub mod Lookups
pub mod Calls
