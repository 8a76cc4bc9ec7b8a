-- How far a text was read, and what the functions on lines promise.
pub mod Progress
pub mod Lines
