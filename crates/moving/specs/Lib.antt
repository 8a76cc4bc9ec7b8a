-- What the first of the two steps leaves.
pub mod Moving
