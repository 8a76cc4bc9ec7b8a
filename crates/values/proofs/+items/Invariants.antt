-- `values::items` meets its contract: an item, and then none or a comma and others.
use Prim.Native.Nat.{◌-◌}
use lib.ListN.{length}
use Rattle.values.proofs.+items.Given as goal

abbrev pub decreases-items : goal.decreases-items
decreases-items l = length l.s.now - l.before.next
