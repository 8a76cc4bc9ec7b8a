-- The readers of what follows a bracket.
pub mod Readers
