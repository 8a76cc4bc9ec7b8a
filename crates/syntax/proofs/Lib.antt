-- What is accepted.
pub mod Theorem
-- Loops over grids by computing.
pub mod GridExamples
-- Readers one after another.
pub mod ReaderLaws
-- Ranks by their numbers.
pub mod RankLaws
-- The argument: what is spelled by tokens from place to place, what a reader has met, what it reads, the places of a line's bytes, whole texts,
-- nested statements and the lines that they stand on.
pub mod Spelling
pub mod SoundExpr
pub mod Sound
pub mod CompleteExpr
pub mod Complete
pub mod Places
pub mod Accepted
pub mod Nested
pub mod Body
-- The forms of updates, and what they come to; references that are alike.
pub mod Forms
pub mod Added
pub mod Aside
pub mod Clauseless
-- What holds of every accepted text: all that its lines made known, its loop, the cells that Load fills, its tokens against its bytes.
pub mod Sane
pub mod ProperLoop
pub mod Placing
pub mod Loaded
pub mod TokenCount
-- The argument: laws of the tests, the order of lines, the table and the lines that change it, the loop's values, the statements.
pub mod TestLaws
pub mod Order
pub mod Table
pub mod TableLines
pub mod LoopValues
pub mod Statements
-- Texts in examples.
pub mod Quoted
