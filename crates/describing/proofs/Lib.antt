-- What Name's answer is good for.
pub mod Theorem
-- Small texts by computing.
pub mod Examples
-- The answers of Bounds and Name.
mod Answering
-- what Name tells, by the table
mod Telling
