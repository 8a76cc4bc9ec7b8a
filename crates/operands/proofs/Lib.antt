-- What an instruction comes to, and the pending values.
pub mod Performing
pub mod Pending
