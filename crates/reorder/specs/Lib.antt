-- Whole iterations in another order (RULES 8; document 02, Point 7). To be believed, in this order:
pub mod Depends
pub mod Stages
pub mod Orders
pub mod Whole
-- what code can keep of the accesses, a few steps for each; proofs/Theorem.antt says what is read off it
pub mod StageTable
