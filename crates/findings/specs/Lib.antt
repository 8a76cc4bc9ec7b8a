-- What is read off the words of the tables.
pub mod Findings
