-- What is proved of the printed form.
pub mod Theorem
-- Texts that differ only in case, a blank, a skipped line or the last newline, by their bytes.
pub mod Asides
-- Rows of it, computed.
pub mod Examples
-- The argument. Printing alike: leading zeros, copies and endings, the rules and the form.
pub mod ZeroLaws
pub mod PlainLaws
pub mod PrintedAlike
-- Reading it again: the text's program, the lexer round trip, what the lexer makes, the printed lines, lines in order, the whole text.
pub mod Programs
pub mod RoundTrip
pub mod LexedLaws
pub mod PrintedTokens
pub mod PrintedLines
pub mod PlainOrder
pub mod ShortLines
pub mod ShortOrder
pub mod PrintedAgain
-- Doing the same; a printed line by its tokens; the length.
pub mod SameLoops
pub mod SameEndings
pub mod SameSteps
pub mod SaidAlike
pub mod FormedLaws
pub mod PrintedLength
pub mod TextWeight
pub mod DataCells
pub mod LiteralLength
pub mod PrintedBound
