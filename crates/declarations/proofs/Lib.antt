-- `integer` lines.
pub mod IntegerLines
