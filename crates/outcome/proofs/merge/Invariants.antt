-- `outcome::merge` meets its contract: the cells passed are merged.
use Rattle.rules.specs.Cells.{cell_of}
use Rattle.tables.specs.Layout.{row_at}
use Rattle.outcome.proofs.ReadingOff.{SettingTo}
use Rattle.findings.specs.Findings as findings
use Rattle.outcome.proofs.merge.Given as goal

abbrev pub invariant-loop-c : goal.invariant-loop-c
invariant-loop-c l =
    SettingTo (λ j. findings.merged l.w (row_at l.processors j) l.processors (cell_of l.initial.cells j)) l.initial.cells l.c l.cells
