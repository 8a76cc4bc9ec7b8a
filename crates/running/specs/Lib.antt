-- What the theorems about Run are stated with. To be believed for them.
pub mod Alike
