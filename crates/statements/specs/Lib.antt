-- What the reader of a statement answers and emits.
pub mod Statement
