-- `lexer::lowered` meets its contract: what is written up to i are the first i bytes in lower case.
use mathlib.Core.Path.{◌≡◌}
use mathlib.Core.List.{map}
use lib.ListN.{take}
use lib.Seq.{sets}
use Rattle.syntax.specs.Bytes.{lower}
use Rattle.lexer.proofs.lowered.Given as goal

abbrev pub invariant-loop-i : goal.invariant-loop-i
invariant-loop-i l = l.low ≡ sets l.initial.low 0 (map lower (take l.i l.text))
