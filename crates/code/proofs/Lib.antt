-- The code of a text does what the text means.
pub mod Compiled
-- For a reader that emits it: its words, what each line adds, that it can be read back, and how long it is.
pub mod Words
pub mod Emitted
pub mod RangedCode
pub mod CodeLength
-- The argument: expressions, and the jumps of open ifs.
pub mod CompiledExpr
pub mod OpenJumps
