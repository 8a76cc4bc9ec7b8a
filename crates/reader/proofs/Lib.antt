-- Each line by its kind, judged; the lines of a text; whole texts.
pub mod Parses
pub mod Dispatch
pub mod Judging
pub mod TextLines
pub mod Reaching
pub mod Whole
