-- `declarations::later` meets its contract: none follows, or the first that follows has the name, or one after it.
use Prim.Native.Nat.{◌-◌}
use lib.ListN.{length}
use Rattle.declarations.proofs.+later.Given as goal

abbrev pub decreases-later : goal.decreases-later
decreases-later l = length l.s.now - l.at
