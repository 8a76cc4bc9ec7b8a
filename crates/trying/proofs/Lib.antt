-- The trial of a text.
mod Trying
