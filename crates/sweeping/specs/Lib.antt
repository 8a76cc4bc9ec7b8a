-- What the sweep promises.
pub mod Sweep
