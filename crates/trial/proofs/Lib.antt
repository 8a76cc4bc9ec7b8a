-- What the callers cite: the start, what stands for a state, and a run's turns.
pub mod Starting
pub mod StandingLaws
pub mod Turns
-- What the serial run cites too: a store in a list of cells.
pub mod AccessLaws
-- The argument: a step, and the run to the end.
mod Stepping
mod RunningOut
