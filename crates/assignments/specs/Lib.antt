-- The name that is assigned, updates and writes.
pub mod Assignment
