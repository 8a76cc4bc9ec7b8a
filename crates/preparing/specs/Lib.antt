-- A text made ready for a run.
pub mod Prepared
