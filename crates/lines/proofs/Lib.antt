-- What a line comes to, and then each kind of line.
pub mod Verdicts
pub mod DeclareLine
pub mod DataReading
pub mod DataCells
pub mod GiveLine
pub mod DirectLine
pub mod LoopLine
pub mod AfterDo
pub mod InnermostJump
pub mod Yields
pub mod BranchLines
pub mod EndLines
pub mod StatementLines
