-- `clauses::claims` meets its contract: a name, and then none or a comma and others.
use Prim.Native.Nat.{◌-◌}
use lib.ListN.{length}
use Rattle.clauses.proofs.+claims.Given as goal

abbrev pub decreases-claims : goal.decreases-claims
decreases-claims l = length l.s.now - l.before.next
