-- `lexer::run_end` meets its contract: the run from i on ends where the run from the place on does.
use Prim.Native.Nat.{ℕ, ◌≤◌, ◌<◌, ◌+◌}
use mathlib.Core.Path.{◌≡◌}
use mathlib.Core.Bool.{Bool}
use lib.ListN.{drop}
use Rattle.syntax.specs.Bytes.{run}
use Rattle.lexer.proofs.run_end.Given as goal

abbrev pub invariant-loop-i : goal.invariant-loop-i
invariant-loop-i g l =
    (l.at ≤ l.i)
    × ((p : ℕ → Bool) → ((b : ℕ) (r : Bool) → b < 256 → goal.F-post g l.goes_on b r → r ≡ p b) → l.at + run p (drop l.at l.s) ≡ l.i + run p (drop l.i l.s))
