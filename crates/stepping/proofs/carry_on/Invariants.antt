-- `stepping::carry_on` meets its contract: the loop has come to where steps lead, and is still at the start where only one is to be made.
use mathlib.Core.Path.{◌≡◌}
use Prim.Native.Nat.{◌/◌}
use lib.ListN.{length}
use Rattle.stepping.specs.declared.Extent.TheVariants.{Once}
use Rattle.stepping.specs.Step.{scene}
use Rattle.stepping.specs.Carrying.{Reached}
use Rattle.stepping.proofs.Nearing.{togo}
use Rattle.stepping.proofs.carry_on.Given as goal

abbrev pub invariant-loop-role : goal.invariant-loop-role
invariant-loop-role l =
    (length l.cells ≡ length l.initial.cells)
    × (length l.w ≡ length l.initial.w)
    × Reached l.role l.code (scene l.initial.cells l.initial.w l.initial.pending l.initial.t) (scene l.cells l.w l.pending l.t)
    × (l.extent ≡ Once → scene l.initial.cells l.initial.w l.initial.pending l.initial.t ≡ scene l.cells l.w l.pending l.t)

abbrev pub decreases-loop-role : goal.decreases-loop-role
decreases-loop-role l = togo (length l.code / 2) l.role.end.0 l.t
