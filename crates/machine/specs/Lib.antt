-- What the machine's functions promise.
pub mod Machine
