-- The stage table in words.
pub mod Rows
-- What the words and the list stand for.
pub mod Kept
