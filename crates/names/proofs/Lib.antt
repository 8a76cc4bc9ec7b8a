-- Rows of the table.
pub mod Laws
pub mod Rows
