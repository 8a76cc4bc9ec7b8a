-- What the serial run promises (crates/rules, Serial, has the rule): its accesses are noted for one processor.
use Rattle.std.specs.Prelude.{◌≡◌, List, [], ℕ, ◌<◌, ℤ}
use Rattle.rules.specs.declared.Class.{Class}
use Rattle.rules.specs.declared.Grouping.TheVariants.{Iterations}
use Rattle.rules.specs.Cells.{listed}
use Rattle.rules.specs.Loop.{Loop, Partition}
use Rattle.rules.specs.Log.{Log, each}
use Rattle.rules.specs.Blocks.{singles}
use Rattle.rules.specs.Merge.{written_cells}
use Rattle.rules.specs.Serial.{Outcome, finished, failed, serial}
use Rattle.shadow.specs.Orderly.{Inside, Ascending}
use Rattle.tables.specs.Logged.{Logged}
use Rattle.tables.specs.Layout.{pairs_word, cells_word}
use Rattle.stepping.specs.declared.Manner.TheVariants.{InPlace}
use Rattle.stepping.specs.declared.Role.{Role}
use Rattle.stepping.specs.declared.Point.{Point}
use Rattle.stepping.specs.Step.{by_fault}
use Rattle.trial.specs.declared.Setting.{Setting}
use Rattle.trial.specs.Standing.{Suits, Coded, Kept}
use Rattle.trial.specs.Start.{Entry}
use Rattle.rules.specs.Merge as merge

-- each iteration by itself, all on one processor
abbrev pub by_one : Loop → Partition
by_one l = singles l.iterations 1

-- what is fixed for the one processor of a run of n iterations, with the loop's variable from v on
abbrev pub alone : ℤ → ℕ → Role
alone v n = record { manner = InPlace; grouping = Iterations; processors = 1; number = record { 0 = 0 }; from = v; end = record { 0 = n } }

-- the cells are m and the words those of the accesses g, of which none is of an iteration after i
pub record Serially (l : Loop) (i : ℕ) (M : List ℤ) (W : List ℕ) (m : ℕ → ℤ) (g : Log) : Type 0 where
  pub suits : Suits 1 l (by_one l)
  pub cells : M ≡ listed l.size m
  pub words : Logged l (by_one l) g W
  pub inside : Inside l.iterations l.size g
  pub ascending : Ascending l (by_one l) g
  pub upto : (j : ℕ) → i < j → each j g ≡ []

-- the code and the setting are the loop's, and the cells those at entry
pub record Serials (code : List ℕ) (s : Setting) (l : Loop) (M : List ℤ) (C : List Class) (n : ℕ) : Type 0 where
  pub coded : Coded code s.from l
  pub iterations : l.iterations ≡ s.iterations
  pub entry : Entry 1 l (by_one l) M C n

abbrev pub CanSerial : List ℕ → Setting → List ℤ → List Class → ℕ → Type 0
CanSerial code s M C n = (l : Loop) × Serials code s l M C n

-- "gives its number, the line ... and v", here the iteration
unfoldable pub outcome_of : Point → Outcome
outcome_of t = by_fault t.fault finished (λ f. failed f.number f.line t.iteration.0)

-- the cells, the outcome and both write counts of the serial run
pub record IsSerial (l : Loop) (M : List ℤ) (W : List ℕ) (t : Point) : Type 0 where
  pub cells : M ≡ listed l.size (serial l).cells
  pub outcome : outcome_of t ≡ (serial l).outcome
  pub pairs : pairs_word W ≡ merge.pairs l (serial l).log
  pub written : cells_word W ≡ written_cells l (serial l).log
  pub kept : Kept 1 l (by_one l) M W

abbrev pub RunsSerially : List ℕ → Setting → List ℤ → List Class → ℕ → List ℤ → List ℕ → Point → Type 0
RunsSerially code s M C n M' W' t = (l : Loop) → Serials code s l M C n → IsSerial l M' W' t
