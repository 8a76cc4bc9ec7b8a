-- Where the words of the tables stand, the words of a log, and what a row begins with.
pub mod Layout
pub mod Logged
pub mod Entered
