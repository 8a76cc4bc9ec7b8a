-- When parts of a line have the same tokens.
pub mod Alike
