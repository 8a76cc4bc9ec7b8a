-- What is written to lent bytes.
pub mod Written
