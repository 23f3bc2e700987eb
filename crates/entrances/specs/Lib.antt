pub mod View
pub mod Entrances
