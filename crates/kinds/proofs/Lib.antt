-- Bytes of lines, and how each kind begins.
pub mod WholeLines
pub mod Starts
