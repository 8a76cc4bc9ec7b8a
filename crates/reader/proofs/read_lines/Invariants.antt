-- `reader::read_lines` meets its contract.
use Prim.Native.Nat.{◌+◌, ◌-◌}
use lib.ListN.{length}
use Rattle.lines.specs.Progress.{held}
use Rattle.reader.proofs.Reaching.{Reached}
use Rattle.reader.proofs.read_lines.Given as goal

abbrev pub invariant-loop-at : goal.invariant-loop-at
invariant-loop-at l = Reached l.s l.n (held l.p l.table l.initial' l.code l.opens) l.at l.line

abbrev pub decreases-loop-at : goal.decreases-loop-at
decreases-loop-at l = length l.s + 1 - l.at
