-- Bytes written one after the other, the lines that are printed, examples.
pub mod Writing
pub mod Lines
pub mod NameBytes
pub mod Examples
