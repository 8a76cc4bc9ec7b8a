-- Rows in words, and what noting an access does to the table.
pub mod RowLaws
pub mod Keeping
