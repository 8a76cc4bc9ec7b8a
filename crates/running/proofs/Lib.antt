-- What the clauses may decide.
pub mod Theorem
-- The examples of document 01.
pub mod Examples
-- The argument: Run by what the trial and the serial run leave; texts alike but for their clauses, by their lines, their clauses and what is known of them.
mod Settling
pub mod Redirected
mod Clauses
mod Known
