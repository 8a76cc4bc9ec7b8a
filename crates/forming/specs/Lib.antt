-- The lines of an accepted text as they are printed.
pub mod Lines
