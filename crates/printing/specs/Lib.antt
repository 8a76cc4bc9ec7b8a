-- What is printed, byte for byte, and how it stands in a buffer.
pub mod Printed
pub mod Written
