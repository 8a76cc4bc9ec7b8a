-- `declarations::integers` meets its contract: a declared name, and then none or a comma and others.
use Prim.Native.Nat.{◌-◌}
use lib.ListN.{length}
use Rattle.declarations.proofs.+integers.Given as goal

abbrev pub decreases-integers : goal.decreases-integers
decreases-integers l = length l.s.now - l.before.next
