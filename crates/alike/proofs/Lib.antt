-- Tokens one by one.
pub mod Tokens
