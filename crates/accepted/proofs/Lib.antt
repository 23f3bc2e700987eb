pub mod Reading
pub mod Lines
pub mod Accepted
pub mod Initial
pub mod Length
pub mod Readable
pub mod Refused
