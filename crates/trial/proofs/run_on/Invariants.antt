-- `trial::run_on` meets its contract: the processors below q have run to their end.
use mathlib.Core.Path.{◌≡◌}
use Prim.Native.Nat.{ℕ, ◌<◌}
use lib.ListN.{length, get_or}
use Rattle.rules.specs.Loop.{Loop}
use Rattle.rules.specs.Steps.{State, run_on}
use Rattle.trial.specs.Running.{dealt, nobody, Run, Over}
use Rattle.trial.proofs.run_on.Given as goal

abbrev pub invariant-loop-q : goal.invariant-loop-q
invariant-loop-q l = record {
  eight : length l.workers ≡ 8;
  runs_on : (o : Loop) (s : State) → Run l.code l.setting o l.initial.cells l.initial.w l.initial.workers s
      → Run l.code l.setting o l.cells l.w l.workers (run_on o (dealt l.setting) l.q s);
  over : (j : ℕ) → j < l.q → Over l.setting j (get_or l.workers j nobody);
}
