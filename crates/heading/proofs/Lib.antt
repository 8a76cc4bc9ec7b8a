-- Lists of parts and ranks; what is read from place to place; literals.
pub mod Lists
pub mod Turns
pub mod Literals
