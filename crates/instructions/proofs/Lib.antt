-- The instruction of two words.
mod Decoding
