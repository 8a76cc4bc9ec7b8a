-- One name in a clause.
pub mod NamesClaimed
