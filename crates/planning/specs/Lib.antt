-- What the theorems about Plan are stated with, to be believed for them; what Plan's parts promise.
pub mod Listed
pub mod Plan
