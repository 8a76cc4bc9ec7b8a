-- `updates::only_times` meets its contract; each call of itself has fewer bytes left.
use Prim.Native.Nat.{◌-◌}
use lib.ListN.{length}
use Rattle.updates.proofs.+only_times.Given as goal

abbrev pub decreases-only_times : goal.decreases-only_times
decreases-only_times l = length l.s.now - l.at
