-- Relations, comparisons and conditions.
pub mod Comparisons
