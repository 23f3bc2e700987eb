-- Verdicts by two tables; the statements. Assumes nothing.
pub mod Verdicts
pub mod Numbers
