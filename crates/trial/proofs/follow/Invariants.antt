-- `trial::follow` meets its contract: after so many bytes the run is that of these.
use mathlib.Core.Path.{◌≡◌}
use lib.ListN.{length, take}
use Rattle.rules.specs.Loop.{Loop}
use Rattle.rules.specs.Steps.{State, steps}
use Rattle.trial.specs.Running.{dealt, Run}
use Rattle.trial.proofs.follow.Given as goal

abbrev pub invariant-loop-b : goal.invariant-loop-b
invariant-loop-b l = (length l.workers ≡ 8)
    × ((o : Loop) (s : State) → Run l.code l.setting o l.initial.cells l.initial.w l.initial.workers s
    → Run l.code l.setting o l.cells l.w l.workers (steps o (dealt l.setting) (take l.b-index l.schedule) s))
