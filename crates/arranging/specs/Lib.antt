-- What is found out before cells are moved.
pub mod Sought
