pub mod Rows
pub mod Levels
pub mod Slots
pub mod Reading
pub mod Steps
pub mod Runs
pub mod Translated
