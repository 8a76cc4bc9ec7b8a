-- The shadow tables. They implement marks, obstacles, private values, partial results and counts, which are defined in the crate rules.
pub mod Tables
-- the states of a run: their logs are such that the tables are right (proofs/Orderly.antt)
pub mod Orderly
