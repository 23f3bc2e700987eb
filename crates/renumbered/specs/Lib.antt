-- The engine before request c), and what it has in common with the engine now. Assumes nothing.
pub mod Before
pub mod Theorems
