-- The words of a log, and how they start: what a run cites.
pub mod Logged
pub mod Start
-- The argument: words that were set, the parts of the flags, and what a change leaves of what the words stand for.
pub mod Words
pub mod Flags
pub mod Held
