-- The `do` line.
pub mod DoLines
