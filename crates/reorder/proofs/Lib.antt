-- Whole iterations in another order: stages.
pub mod Theorem
-- Small loops by computing.
pub mod Examples
-- The argument, bottom up: orders, the accesses of one iteration, what is asked of an iteration, and that those of a loop have it;
pub mod OrderLaws
pub mod EachLaws
pub mod Local
pub mod AlongLaws
-- such iterations in another order, and the serial run as the order of the numbers;
pub mod Reorder
pub mod WholeRun
-- stages and their table.
pub mod StageLaws
pub mod StageRun
pub mod StageCells
pub mod StageTableRight
