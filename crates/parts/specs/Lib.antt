-- What a reader of expressions answers and emits, and what its steps do.
pub mod Answer
pub mod Parts
