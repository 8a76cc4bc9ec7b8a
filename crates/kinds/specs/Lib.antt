-- The kind of a line by its first words.
pub mod Kinds
