-- What is wrong with a text, by its number of RULES 10.
use Rattle.std.specs.Prelude.{ℕ}
use Rattle.syntax.specs.declared.Flaw.{Flaw}
use Rattle.syntax.specs.declared.Flaw.TheVariants.{TooLong, BrokenForm, WrongName, OverLimit}

abbrev pub flaw_number : Flaw → ℕ
flaw_number TooLong = 1
flaw_number BrokenForm = 2
flaw_number WrongName = 3
flaw_number OverLimit = 4
