-- An iteration of the sweep, step by step, and the sweep from its start to its end.
pub mod Stepping
pub mod Ends
