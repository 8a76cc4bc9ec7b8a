-- The lines of an accepted text, printed by their kinds, are its printed form; what Print answers.
pub mod Shapes
pub mod Whole
pub mod Answering
-- Rows of what it answers, computed.
pub mod Examples
