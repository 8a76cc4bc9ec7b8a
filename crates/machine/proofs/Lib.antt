-- The code from place to place.
mod Resuming
