-- What Plan's list is good for.
pub mod Theorem
-- Small texts by computing.
pub mod Examples
-- Plan's parts, its answer by the verdict on the text, and what its list holds.
mod Parts
mod Answering
mod Listing
