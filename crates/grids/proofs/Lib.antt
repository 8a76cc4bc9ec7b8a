-- Where each element goes, that other cells stay, and that the two ways undo one another.
pub mod Theorem
-- The argument: places in row order and in element order, the cells at them, and the grid that is named.
pub mod Places
pub mod Moved
pub mod Named
