-- What cells, words and points stand for in the serial run, and what the functions promise.
pub mod Serving
