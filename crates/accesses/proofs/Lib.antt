-- Subscripts.
mod Subscripts
