-- RULES 9.7 a: what a run leaves, word by word (document 01, Contracts and examples: "the shared cells, private values, partial results, marks and records
-- it leaves, both write counts of its own accesses, which processors met a fault, and which cells have an obstacle").
use Rattle.std.specs.Prelude.{◌≡◌, ◌↔◌, true, List, ℕ, ◌<◌, get_or, ℤ, IsSome}
use Rattle.int32.specs.Integers.{value}
use Rattle.rules.specs.Cells.{listed}
use Rattle.rules.specs.Loop.{Loop, joining}
use Rattle.rules.specs.Log.{only, written}
use Rattle.rules.specs.Marks.{marks}
use Rattle.rules.specs.Obstacles.{ObstacleAt}
use Rattle.rules.specs.Record.{Recorded}
use Rattle.rules.specs.Merge.{block, total, pairs, written_cells}
use Rattle.rules.specs.Steps.{State, Stopped}
use Rattle.tables.specs.Layout.{row_at, own_at, pairs_word, cells_word, lowest_word, highest_word, partial_word}
use Rattle.findings.specs.Findings.{marks_of, blocked_of, private_of}
use Rattle.trial.specs.declared.Worker.{Worker}
use Rattle.trial.specs.declared.Setting.{Setting}
use Rattle.trial.specs.Running.{dealt, Held, nobody}

-- of a state over k processors: M the cells, W the words, ws the records
pub record Leaves (code : List ℕ) (g : Setting) (l : Loop) (s : State) (M : List ℤ) (W : List ℕ) (ws : List Worker) : Type 0 where
  pub cells : M ≡ listed l.size s.cells
  -- what each processor wrote last, and the partial result of its updates
  pub private : (c q : ℕ) → c < l.size → q < g.processors
      → private_of W (own_at (row_at g.processors c) q) ≡ written c (block (dealt g) q s.log)
  pub partials : (c q : ℕ) → c < l.size → q < g.processors
      → value (partial_word W (own_at (row_at g.processors c) q)) ≡ total (joining l c) c (block (dealt g) q s.log)
  pub marked : (c : ℕ) → c < l.size → marks_of W (row_at g.processors c) ≡ marks (dealt g).group c s.log
  -- document 02, Point 5: "The record of a cell now holds the lowest-numbered iteration that writes it and the highest-numbered that so reads it; with
  -- Point 3's clause, blocks"
  pub cell_records : (c : ℕ) → c < l.size → Recorded (λ i. only (dealt g).group i s.log) c (lowest_word W (row_at g.processors c))
      (highest_word W (row_at g.processors c))
  pub records : (q : ℕ) → q < g.processors → Held code g l (get_or ws q nobody) (s.places q)
  pub pair_count : pairs_word W ≡ pairs l s.log
  pub cell_count : cells_word W ≡ written_cells l s.log
  pub faults : (q : ℕ) → q < g.processors → Stopped (dealt g) s q ↔ IsSome (get_or ws q nobody).point.fault
  pub obstacles : (c : ℕ) → c < l.size
      → ObstacleAt (l.class c) (λ i. only (dealt g).group i s.log) c ↔ (blocked_of W (row_at g.processors c) ≡ true)
