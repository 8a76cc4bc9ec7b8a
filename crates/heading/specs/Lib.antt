-- Lists of parts, and ranks.
pub mod Lists
