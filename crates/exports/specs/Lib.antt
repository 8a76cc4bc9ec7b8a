-- The numbers of each answer.
pub mod Numbers
