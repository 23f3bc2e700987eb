pub mod View
pub mod Held
pub mod Laws
