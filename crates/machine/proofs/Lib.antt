pub mod Loop
pub mod Beginning
pub mod Clearing
