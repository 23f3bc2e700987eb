pub mod Masks
pub mod Symbols
