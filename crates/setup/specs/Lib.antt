-- What is fixed in a run of a text, and the classes of its cells as numbers.
pub mod Settings
pub mod Classes
