pub mod Decoding
pub mod Layout
