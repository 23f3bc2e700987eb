pub mod Instructions
pub mod Emitting
pub mod Whole
