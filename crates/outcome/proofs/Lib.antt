-- What the callers cite: what a run leaves, and what is read off.
pub mod Leaving
pub mod ReadingOff
-- The argument: after the serial run.
mod Concluding
