-- `outcome::restore` meets its contract: the cells passed are as at entry.
use lib.ListN.{get_or}
use Rattle.int32.specs.Integers.{value}
use Rattle.tables.specs.Layout.{row_at}
use Rattle.outcome.proofs.ReadingOff.{SettingTo}
use Rattle.outcome.proofs.restore.Given as goal

abbrev pub invariant-loop-c : goal.invariant-loop-c
invariant-loop-c l = SettingTo (λ j. value (get_or l.w (row_at l.processors j) 0)) l.initial.cells l.c l.cells
