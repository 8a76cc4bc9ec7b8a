-- That the two services undo one another.
pub mod Theorem
-- Small texts by computing.
pub mod Examples
-- The answers of Rows and Columns; one after the other.
mod Answering
mod Restoring
