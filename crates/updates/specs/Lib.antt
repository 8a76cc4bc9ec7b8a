-- The forms of updates, as the code finds them.
pub mod Forms
