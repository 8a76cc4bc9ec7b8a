-- What the callers cite: what the reader found, and that a run can begin.
pub mod Verdicts
pub mod Beginning
-- The argument: what is made ready.
mod Preparing
