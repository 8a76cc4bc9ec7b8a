-- What is read off the words of a log, as RULES 5 and 7 have it.
use mathlib.Core.Path.{◌≡◌, ◌∙◌}
use mathlib.Core.Logic.{◌↔◌}
use mathlib.Core.Bool.{true}
use mathlib.Core.List.{List}
use Prim.Native.Nat.{ℕ, ◌<◌}
use Rattle.int32.specs.Integers.{value}
use Rattle.rules.specs.Loop.{Loop, Partition}
use Rattle.rules.specs.Log.{Log, only}
use Rattle.rules.specs.Marks.{marks}
use Rattle.rules.specs.Obstacles.{ObstacleAt}
use Rattle.rules.specs.Record.{Recorded}
use Rattle.rules.specs.Steps.{State}
use Rattle.rules.specs.Merge.{pairs, written_cells}
use Rattle.shadow.proofs.Shows.{Shows, merged_right}
use Rattle.shadow.specs.Tables.{table}
use Rattle.tables.specs.Layout.{row_at, pairs_word, cells_word, entry_word, lowest_word, highest_word}
use Rattle.tables.specs.Logged.{Logged}
use Rattle.findings.specs.Findings.{marks_of, blocked_of}
use Rattle.findings.proofs.ReadOff.{marks_held, blocked_held, merged_held}
use Rattle.rules.specs.Merge as merge
use Rattle.findings.specs.Findings as findings

module _ (l : Loop) (δ : Partition) (g : Log) (W : List ℕ) (h : Logged l δ g W) where
  -- the value of a cell at entry
  pub logged_entry : (c : ℕ) → c < l.size → value (entry_word W (row_at δ.processors c)) ≡ l.entry c
  logged_entry c b = (h.rows c b).entry

  module _ (s : Shows l δ g (table l δ g)) where
    pub logged_pairs : pairs_word W ≡ pairs l g
    logged_pairs = h.pairs ∙ s.pair_count

    pub logged_cells : cells_word W ≡ written_cells l g
    logged_cells = h.cells ∙ s.cell_count

    module _ (c : ℕ) (b : c < l.size) where
      abbrev at : ℕ
      at = row_at δ.processors c

      pub logged_marks : marks_of W at ≡ marks δ.group c g
      logged_marks = marks_held δ.processors (l.class c) (l.entry c) W at ((table l δ g).rows c) (h.rows c b) ∙ s.marked c

      pub logged_record : Recorded (λ i. only δ.group i g) c (lowest_word W at) (highest_word W at)
      logged_record = rw ((h.rows c b).lowest, (h.rows c b).highest) (s.recorded c)

      pub logged_obstacle : ObstacleAt (l.class c) (λ i. only δ.group i g) c ↔ (blocked_of W at ≡ true)
      logged_obstacle =
          let x = blocked_held δ.processors (l.class c) (l.entry c) W at ((table l δ g).rows c) (h.rows c b) in
          let y = s.obstacle (l.class c) c in
          (λ o. x.0 (y.1 o), λ e. y.0 (x.1 e))

-- the merge
pub logged_merged : (l : Loop) (δ : Partition) (s : State) (W : List ℕ) → Logged l δ s.log W
    → Shows l δ s.log (table l δ s.log) → (c : ℕ) → c < l.size
    → findings.merged W (row_at δ.processors c) δ.processors (s.cells c) ≡ merge.merged l δ s c
logged_merged l δ s W h t c b =
    merged_held l δ c W (row_at δ.processors c) ((table l δ s.log).rows c) s.cells (l.class c) (h.rows c b)
    ∙ merged_right l δ s (table l δ s.log) t c
