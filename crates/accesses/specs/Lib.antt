-- The cell of a subscript.
pub mod Cells
