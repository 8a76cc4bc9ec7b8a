-- What holds of the definitions, for the proofs of this crate and of its callers.
pub mod Laws
pub mod Signs
pub mod Division
pub mod Sizes
pub mod Rounding
pub mod Truncation
pub mod Wide
