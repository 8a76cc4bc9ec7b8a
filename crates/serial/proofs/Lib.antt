-- What the callers cite: the serial run's start from the trial's; what Look shows and Run answers.
pub mod Starting
pub mod Verdicts
-- The argument, which the sweep (crates/sweeping) cites too: where the run is, an access, and the run step by step.
pub mod Serving
pub mod AccessLaws
pub mod Stepping
