pub mod Ends
pub mod Slips
