-- Words and places, and what is written.
pub mod Passing
pub mod Written
