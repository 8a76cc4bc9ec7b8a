-- What holds of bytes, tokens and what they are compared with.
pub mod Laws
pub mod Tokens
pub mod Signs
pub mod Said
pub mod PlaceLaws
pub mod Chains
pub mod InTurn
pub mod SameKind
