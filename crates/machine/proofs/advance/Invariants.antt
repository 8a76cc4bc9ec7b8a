-- `machine::advance` meets its contract: what is done from the place that the loop has reached is what is done from the first.
use mathlib.Core.Path.{◌≡◌}
use Prim.Native.Nat.{◌≤◌, ◌-◌}
use lib.ListN.{length}
use Rattle.operands.specs.Pending.{pendings}
use Rattle.machine.proofs.Resuming.{from}
use Rattle.machine.proofs.advance.Given as goal

abbrev pub invariant-loop-at : goal.invariant-loop-at
invariant-loop-at l =
    (length l.pending ≡ 32)
    × (l.d ≤ 32)
    × (l.place ≤ l.at)
    × (from l.code l.v l.place (pendings l.initial.pending l.depth) ≡ from l.code l.v l.at (pendings l.pending l.d))

abbrev pub decreases-loop-at : goal.decreases-loop-at
decreases-loop-at l = l.count - l.at
