-- Relations and comparisons.
pub mod Comparison
