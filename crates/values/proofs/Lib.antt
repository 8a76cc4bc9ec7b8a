-- `data` lines.
pub mod DataLines
