-- `clauses::clauses` meets its contract: none, one that is broken, or one and others.
use Prim.Native.Nat.{◌-◌}
use lib.ListN.{length}
use Rattle.clauses.proofs.+clauses.Given as goal

abbrev pub decreases-clauses : goal.decreases-clauses
decreases-clauses l = length l.s.now - l.before.next
