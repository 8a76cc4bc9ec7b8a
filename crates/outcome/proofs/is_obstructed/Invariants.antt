-- `outcome::is_obstructed` meets its contract: none of the cells passed has an obstacle.
use mathlib.Core.Path.{◌≡◌}
use mathlib.Core.Bool.{false}
use Prim.Native.Nat.{ℕ, ◌<◌}
use Rattle.outcome.proofs.ReadingOff.{blocked_at}
use Rattle.outcome.proofs.is_obstructed.Given as goal

abbrev pub invariant-loop-c : goal.invariant-loop-c
invariant-loop-c l = (j : ℕ) → j < l.c → blocked_at l.w l.processors j ≡ false
