-- What a run leaves, what is read off, and what Run answers after the serial run.
pub mod Leaves
pub mod ReadOff
pub mod Concluding
