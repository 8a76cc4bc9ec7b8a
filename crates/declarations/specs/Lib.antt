-- What an `integer` line makes known.
pub mod Integer
