-- `sweeping::sweep` meets its contract: before each iteration the run comes to what it came to at the start, and the list has the stages of those before.
use Rattle.std.proofs.Common.{◌≡◌, ℤ}
use Rattle.rules.specs.Loop.{Loop}
use Rattle.reorder.specs.Stages.{greatest}
use Rattle.staging.specs.Rows.{stage_in}
use Rattle.sweeping.specs.Sweep.{Before, Runs}
use Rattle.sweeping.proofs.sweep.Given as goal

abbrev pub invariant-loop-i : goal.invariant-loop-i
invariant-loop-i l = record {
  highest : l.stages ≡ greatest l.i (stage_in l.list);
  before : (v : ℤ) (m : Loop) → Runs l.code l.role v m → l.i-end ≡ m.iterations → Before m 0 l.initial.cells l.initial.w l.initial.rows l.initial.list
      → Before m l.i l.cells l.w l.rows l.list;
}
