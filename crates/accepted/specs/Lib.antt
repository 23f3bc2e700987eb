pub mod Accepted
pub mod Readable
