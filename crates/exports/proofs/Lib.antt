-- What Name tells of small texts, in numbers.
pub mod Examples

-- The rest are proofs of the functions alone.
