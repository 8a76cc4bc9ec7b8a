-- What the `do` line makes known.
pub mod DoLine
