-- `lexer::literal` meets its contract: n is the number of the digits passed, up to 2^31.
use Prim.Native.Nat.{min}
use mathlib.Core.Path.{◌≡◌}
use lib.ListN.{take}
use Rattle.syntax.specs.Grammar.{number}
use Rattle.lexer.proofs.literal.Given as goal

abbrev pub invariant-loop-b : goal.invariant-loop-b
invariant-loop-b l = l.n ≡ min (number (take l.b-index l.b-items)) 2147483648
