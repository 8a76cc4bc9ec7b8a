-- `writing::significant` meets its contract: the digits from i on are the same without their leading zeros.
use mathlib.Core.Path.{◌≡◌}
use Prim.Native.Nat.{◌≤◌}
use Rattle.lexer.specs.Lex.{part}
use Rattle.printed.specs.Form.{shortest}
use Rattle.writing.proofs.significant.Given as goal

abbrev pub invariant-loop-i : goal.invariant-loop-i
invariant-loop-i l = (l.a ≤ l.i) × (shortest (part l.s l.i l.e) ≡ shortest (part l.s l.a l.e))
