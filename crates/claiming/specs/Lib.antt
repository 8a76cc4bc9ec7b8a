-- What names in clauses come to.
pub mod Claims
