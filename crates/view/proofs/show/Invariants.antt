-- `view::show` meets its contract: the cells passed are shown.
use mathlib.Core.Path.{◌≡◌}
use lib.ListN.{length}
use Rattle.int32.specs.Integers.{word}
use Rattle.rules.specs.Cells.{cell_of}
use Rattle.tables.specs.Layout.{row_at}
use Rattle.findings.specs.Findings.{marks_of}
use Rattle.view.proofs.Viewing.{Showing}
use Rattle.view.proofs.show.Given as goal

abbrev pub invariant-loop-c : goal.invariant-loop-c
invariant-loop-c l =
    (length l.view ≡ length l.initial.view) × Showing l.view l.c (λ j. word (cell_of l.cells j)) (λ j. marks_of l.w (row_at l.processors j))
