pub mod Filling
pub mod Entering
