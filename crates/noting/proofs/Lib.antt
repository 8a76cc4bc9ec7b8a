-- The words of a log, an access more: what a step over them cites.
pub mod Logging
-- The argument: the words after each function, one by one; that counts have room; an access more, and what it reads of its own.
mod Words
mod Room
mod Accesses
mod OwnValue
