pub mod Programs
pub mod Laws
