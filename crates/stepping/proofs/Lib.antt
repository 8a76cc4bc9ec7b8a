-- What the trial and the serial run cite: a step by what is left of the iteration, and whether a processor is open.
pub mod Happening
pub mod Opened
-- What whoever goes step by step cites too: that a step brings a processor nearer to its end. And the faults of code.
pub mod Nearing
mod Faults
-- The argument: a step by its move, a run of steps.
mod Moves
mod Carried
