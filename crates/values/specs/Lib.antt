-- What a `data` line makes known.
pub mod Data
