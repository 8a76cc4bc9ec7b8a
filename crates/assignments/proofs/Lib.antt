-- The parts of an assignment, and assignments.
pub mod Assigned
pub mod Assignments
