-- What the readers of expressions read, form by form.
pub mod Shapes
pub mod Sums
pub mod Factors
