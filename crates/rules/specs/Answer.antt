-- What Look shows and what Run answers, by the step rule; and what the serial run alone settles: RULES 9.4, 9.5 and 12 (document 01).
use Rattle.std.specs.Prelude.{◌≡◌, List, [], ◌∷◌, ℕ, zero, suc, ℤ}
use Rattle.int32.specs.Integers.{word}
use Rattle.rules.specs.Loop.{Loop, Partition}
use Rattle.rules.specs.Marks.{marks}
use Rattle.rules.specs.Obstacles.{Obstructed, obstructed?}
use Rattle.rules.specs.Steps.{steps, start, trial, Faulty, faulty?}
use Rattle.rules.specs.Serial.{Outcome, finished, failed, serial, finished?}
use Rattle.rules.specs.Merge.{merged, pairs, written_cells}
use Rattle.rules.specs.Cells.{listed}
use Rattle.rules.specs.Decide.{both?, not?}

-- ---- Look

-- "for each cell in turn two 32-bit words, the shared value and then the marks"
unfoldable pub viewed : ℕ → (ℕ → ℤ) → (ℕ → ℕ) → List ℕ
viewed zero m k = []
viewed (suc n) m k = word (m 0) ∷ k 0 ∷ viewed n (λ c. m (suc c)) (λ c. k (suc c))

-- "as they are after the schedule's bytes, without running on"
unfoldable pub look : Loop → Partition → List ℕ → List ℕ
look l δ ps = let s = steps l δ ps (start l δ) in viewed l.size s.cells (λ c. marks δ.group c s.log)

-- ---- Run

-- "passed or rerun, then the ... two write counts, pairs first"; a fault with its number, its line and its iteration
pub data Answer : Type 0 where
  passed rerun : ℕ → ℕ → Answer
  faulted : ℕ → ℕ → ℕ → Answer

-- the answer, and the cells that are left
pub record Ending : Type 0 where
  pub answer : Answer
  pub cells : List ℤ

-- an answer without the word passed or rerun: the two counts, or the fault
abbrev pub wordless : Answer → Answer
wordless (passed a b) = rerun a b
wordless (rerun a b) = rerun a b
wordless (faulted n t i) = faulted n t i

-- Document 02, Point 3: "Of what Run answers and leaves in the cells, the processor count may change that result alone": the counts or the fault
-- are equal, and all cells
pub record AlikeButForTheWord (e f : Ending) : Type 0 where
  pub answer : wordless e.answer ≡ wordless f.answer
  pub cells : e.cells ≡ f.cells

-- a run carried to its end met neither a fault nor an obstacle
pub record TrialPasses (l : Loop) (δ : Partition) (ps : List ℕ) : Type 0 where
  pub faultless : ¬ Faulty δ (trial l δ ps)
  pub free : ¬ Obstructed l δ.group (trial l δ ps).log

-- "Without one, it meets an obstacle when the whole list has one"
pub record SerialPasses (l : Loop) (γ : ℕ → ℕ) : Type 0 where
  pub faultless : (serial l).outcome ≡ finished
  pub free : ¬ Obstructed l γ (serial l).log

unfoldable pub trial_passes? : (l : Loop) (δ : Partition) (ps : List ℕ) → Dec (TrialPasses l δ ps)
trial_passes? l δ ps = elim (both? (not? (faulty? δ (trial l δ ps))) (not? (obstructed? l δ.group (trial l δ ps).log))) [
  | yes x ↦ yes (record { faultless = x.0; free = x.1 })
  | no f ↦ no (λ t. f (t.faultless, t.free))
]

unfoldable pub serial_passes? : (l : Loop) (γ : ℕ → ℕ) → Dec (SerialPasses l γ)
serial_passes? l γ = elim (both? (finished? (serial l).outcome) (not? (obstructed? l γ (serial l).log))) [
  | yes x ↦ yes (record { faultless = x.0; free = x.1 })
  | no f ↦ no (λ t. f (t.faultless, t.free))
]

-- "Otherwise the cells return to entry and the serial run follows; if that faults, they return to entry again"
unfoldable pub again : Loop → Outcome → Ending
again l finished = record { answer = rerun (pairs l (serial l).log) (written_cells l (serial l).log); cells = listed l.size (serial l).cells }
again l (failed n t i) = record { answer = faulted n t i; cells = listed l.size l.entry }

-- Run under a schedule: the trial, kept if it passed; else the serial run
unfoldable pub run_by : (l : Loop) (δ : Partition) (ps : List ℕ) → Dec (TrialPasses l δ ps) → Ending
run_by l δ ps (yes t) = record {
  answer = passed (pairs l (trial l δ ps).log) (written_cells l (trial l δ ps).log);
  cells = listed l.size (merged l δ (trial l δ ps));
}
run_by l δ ps (no f) = again l (serial l).outcome

unfoldable pub run : Loop → Partition → List ℕ → Ending
run l δ ps = run_by l δ ps (trial_passes? l δ ps)

-- What the serial run settles: passed if it meets neither a fault nor an obstacle, rerun if an obstacle and no fault, else the fault
unfoldable pub settled_by : (l : Loop) (γ : ℕ → ℕ) → Dec (SerialPasses l γ) → Ending
settled_by l γ (yes s) = record { answer = passed (pairs l (serial l).log) (written_cells l (serial l).log); cells = listed l.size (serial l).cells }
settled_by l γ (no f) = again l (serial l).outcome

unfoldable pub settled : Loop → (ℕ → ℕ) → Ending
settled l γ = settled_by l γ (serial_passes? l γ)
