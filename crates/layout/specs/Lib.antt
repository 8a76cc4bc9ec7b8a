-- The tokens of a line as they are printed.
pub mod Copied
