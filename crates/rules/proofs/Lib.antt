-- Order decides nothing.
pub mod Theorem
-- Marks by computing.
pub mod MarkExamples
-- The argument, bottom up: what holds of obstacles and of a group's work, a group by itself, runs of any kind,
pub mod ObstacleLaws
pub mod RecordLaws
pub mod Job
pub mod ProperLaws
pub mod Isolated
pub mod Runs
-- the trial and the serial run as such runs,
pub mod Progress
pub mod TrialRun
pub mod TrialEnd
pub mod SerialRun
pub mod Order
-- the cells and counts of a trial that passed, and Run's answer.
pub mod TouchLaws
pub mod OperationLaws
pub mod SumLaws
pub mod MergeRun
pub mod Passed
pub mod AnswerRun
-- Neighbours tested together.
pub mod CoarserRun
-- Laws for callers.
pub mod BlocksLaws
pub mod CellsLaws
pub mod NumberLaws
pub mod Likewise
pub mod SerialFault
