-- The pending values, and what an instruction does.
pub mod Pending
pub mod Performing
