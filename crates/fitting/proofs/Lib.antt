-- What the callers cite: what is lent fits.
pub mod Fits
-- A copy of cells at the front of a longer list.
pub mod Front
-- The bound of the words that a run needs, and a schedule's test.
mod Numbers
mod Schedules
