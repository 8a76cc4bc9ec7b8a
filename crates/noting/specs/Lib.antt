-- What the functions do to the words.
pub mod Changes
