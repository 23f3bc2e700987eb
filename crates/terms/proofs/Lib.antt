pub mod Flat
pub mod Judged
pub mod Laws
