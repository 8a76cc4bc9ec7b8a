-- What the program prints for a text.
pub mod Output
