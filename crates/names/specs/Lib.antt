-- The table of names as words, and what its functions promise.
pub mod Table
