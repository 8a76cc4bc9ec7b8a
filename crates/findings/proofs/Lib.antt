-- The words of a log: what a run over them cites.
pub mod Logged
-- The same for any tables.
pub mod ReadOff
