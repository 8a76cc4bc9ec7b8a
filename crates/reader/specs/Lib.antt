-- A line judged, and a text read.
pub mod Judged
