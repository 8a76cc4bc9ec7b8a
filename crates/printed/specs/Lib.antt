-- The printed form of a text (RULES 1.15; document 02, Point 8). To be believed, in this order:
pub mod Form
pub mod Differ
pub mod Restated
