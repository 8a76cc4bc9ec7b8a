-- `sweeping::iterate` meets its contract.
use mathlib.Core.Path.{◌≡◌}
use Prim.Native.Nat.{◌/◌, ◌<◌}
use lib.ListN.{length}
use lib.IntN.{ℤ}
use Rattle.rules.specs.Loop.{Loop}
use Rattle.stepping.specs.Step.{scene}
use Rattle.stepping.proofs.Nearing.{togo}
use Rattle.sweeping.specs.Sweep.{Before, Runs}
use Rattle.sweeping.proofs.Stepping.{Reached}
use Rattle.sweeping.proofs.iterate.Given as goal

abbrev pub invariant-loop-t : goal.invariant-loop-t
invariant-loop-t l =
    (length l.cells ≡ length l.initial.cells)
    × (length l.w ≡ length l.initial.w)
    × (length l.rows ≡ length l.initial.rows)
    × ((v : ℤ) (m : Loop) → Runs l.code l.role v m → l.i.0 < m.iterations → Before m l.i.0 l.initial.cells l.initial.w l.initial.rows l.list
    → Reached l.code v m l.i.0 l.list l.rows l.over (scene l.cells l.w l.pending l.t))

abbrev pub decreases-loop-t : goal.decreases-loop-t
decreases-loop-t l = togo (length l.code / 2) l.role.end.0 l.t
