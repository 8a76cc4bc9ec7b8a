-- What cells, words and records stand for.
pub mod Standing
pub mod Running
-- What the functions promise of the start and the trial.
pub mod Start
