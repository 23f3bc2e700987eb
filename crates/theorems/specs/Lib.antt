-- The statements, in Theorems, and the words that they use beside those of `meaning`. Assumes nothing.
pub mod Unlimited
pub mod Limits
pub mod Outcomes
pub mod Early
pub mod Theorems
pub mod Frauds
