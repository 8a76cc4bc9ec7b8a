-- RULES 12 e (document 02, Point 1): "their cells are the serial run's as before". A text without its clauses, and what it is for two serial runs to be alike.
use Rattle.std.specs.Prelude.{◌≡◌, List, [], map}
use Rattle.rules.specs.declared.Grouping.TheVariants.{Iterations}
use Rattle.rules.specs.Loop.{Loop}
use Rattle.rules.specs.Serial.{serial}
use Rattle.rules.specs.Merge.{pairs, written_cells}
use Rattle.syntax.specs.Known.{Entry, classify, State}

-- the names as a directive without clauses leaves them: "A name in no clause is shared"
abbrev pub unclaused : List Entry → List Entry
unclaused = map (classify [])

-- and each iteration by itself; all else that is known stays
abbrev pub clauseless : State → State
clauseless s = record {
  stage = s.stage;
  table = unclaused s.table;
  processors = s.processors;
  grouping = Iterations;
  variable = s.variable;
  from = s.from;
  count = s.count;
  opens = s.opens;
  inner = s.inner;
}

-- the same cells, the same fault or none, the same two write counts
pub record SerialAlike (l l' : Loop) : Type 0 where
  pub cells : (serial l).cells ≡ (serial l').cells
  pub outcome : (serial l).outcome ≡ (serial l').outcome
  pub pair_count : pairs l (serial l).log ≡ pairs l' (serial l').log
  pub cell_count : written_cells l (serial l).log ≡ written_cells l' (serial l').log
