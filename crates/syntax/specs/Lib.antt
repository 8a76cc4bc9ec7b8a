-- What a loop text is. To be believed, in this order:
pub mod Bytes
pub mod Grammar
pub mod Known
pub mod Conditions
pub mod Text
pub mod Follows
pub mod Meaning
-- to be believed for the theorems that are stated with them: the forms of updates, a text without its clauses
pub mod Forms
pub mod Clauseless
-- devices: the reader that the theorem of proofs/Theorem.antt shows to be the grammar's, and the tokens from one of its places to another
pub mod Reader
pub mod Spelled
-- to look at: nested statements as lines; what holds of every accepted text
pub mod Nesting
pub mod Sane
-- what is wrong with a text, and the ranks that the readers hand on, by their numbers
pub mod Flaws
pub mod Ranks
