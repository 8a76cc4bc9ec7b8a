-- `alike::alike` meets its contract: what was passed of both runs of tokens is the same.
use Prim.Native.Nat.{◌≤◌, ◌-◌}
use mathlib.Core.Path.{◌≡◌}
use lib.ListN.{length}
use Rattle.alike.proofs.Tokens.{Walked}
use Rattle.alike.proofs.alike.Given as goal

abbrev pub invariant-loop-left : goal.invariant-loop-left
invariant-loop-left l = (l.left.text ≡ l.initial.left.text) × (l.right.text ≡ l.initial.right.text) × (l.left.at ≤ length l.s) × (l.right.at ≤ length l.s) × Walked l.s l.n l.from l.to l.left.at l.right.at

abbrev pub decreases-loop-left : goal.decreases-loop-left
decreases-loop-left l = l.n - l.left.at
