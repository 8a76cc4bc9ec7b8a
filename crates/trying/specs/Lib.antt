-- What the trial of a text leaves.
pub mod Trial
