-- What Look shows.
pub mod View
