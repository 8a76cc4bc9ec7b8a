-- Ranks by their numbers: 0 in order, 1 over a limit (number 4 of RULES 10), 2 a wrong name (number 3).
use Rattle.std.specs.Prelude.{ℕ}
use Rattle.syntax.specs.declared.Rank.{Rank}
use Rattle.syntax.specs.declared.Rank.TheVariants.{InOrder, OverLimit, WrongName}

abbrev pub level : Rank → ℕ
level InOrder = 0
level OverLimit = 1
level WrongName = 2
