pub mod Fitting
pub mod Outcomes
