-- What the directive makes known.
pub mod Directive
