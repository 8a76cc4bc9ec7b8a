-- The serial run of a text.
mod Serially
