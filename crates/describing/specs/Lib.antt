-- What the theorems about Name are stated with.
pub mod Told
