-- Names in clauses, clauses one after the other, and the directive.
pub mod Ranks
pub mod SomeMarked
pub mod ClaimsRead
pub mod ClauseWords
pub mod ClausesRead
pub mod DirectiveRead
-- What its clauses come to.
pub mod NamesOnce
pub mod NamesGiven
pub mod ClassesGiven
pub mod NamesCopied
pub mod Readings
pub mod Times
