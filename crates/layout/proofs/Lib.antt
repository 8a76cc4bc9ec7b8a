-- Laws of the tokens of a line as they are printed, of the copies of a literal, and what they come to for an accepted line.
pub mod Copying
pub mod Literals
pub mod Data
