-- What the tables of a log show, and that the logs of all runs are such that they show it.
pub mod Shows
pub mod Orderly
pub mod Bounds
-- The argument, bottom up: sets of groups, what one more access changes of them, a cell's row, what is read off it, the counts, the merge.
pub mod Sets
pub mod Change
pub mod Judged
pub mod Rows
pub mod ReadOff
pub mod Counts
pub mod Merging
