-- Loops that do the same but for the lines of faults end alike: the serial run settles the same answer, but for a fault's line, and the same cells.
use mathlib.Core.Path.{◌≡◌, refl, sym, subst, subst₂}
use Prim.Native.Nat.{ℕ}
use native.Mathlib.Omega.{arith}
use Rattle.rules.specs.Loop.{Loop}
use Rattle.rules.specs.Log.{only, each}
use Rattle.rules.specs.Obstacles.{ObstacleAt, Obstructed}
use Rattle.rules.specs.Serial.{Outcome, finished, serial}
use Rattle.rules.specs.Merge.{touches, count, sum, pairs, written_cells}
use Rattle.rules.specs.Cells.{listed}
use Rattle.rules.specs.Answer.{passed, rerun, SerialPasses, serial_passes?, again, settled_by, settled}
use Rattle.printed.specs.Restated.{SameLoop, SameOutcome, no_fault, one_fault, SameResult, SameAnswer, both_passed, both_rerun, both_faulted, SameEnding}
use Rattle.printed.proofs.SameLoops.{loop_serial}

module _ (l m : Loop) (h : SameLoop l m) (γ : ℕ → ℕ) where
  same : SameResult (serial l) (serial m)
  same = loop_serial l m h

  -- ---- what is counted and left

  pairs_same : pairs m (serial m).log ≡ pairs l (serial l).log
  unfolding pairs
  pairs_same = λ i. sum (h.iterations i) (λ k. count (h.size i) (λ c. touches c (each k (same.log i))))

  written_same : written_cells m (serial m).log ≡ written_cells l (serial l).log
  unfolding written_cells
  written_same = λ i. count (h.size i) (λ c. touches c (same.log i))

  cells_same : listed m.size (serial m).cells ≡ listed l.size (serial l).cells
  cells_same = λ i. listed (h.size i) (same.cells i)

  -- ---- whether it passes

  finished_same : {o p : Outcome} → SameOutcome o p → (o ≡ finished → p ≡ finished) × (p ≡ finished → o ≡ finished)
  finished_same no_fault = (λ e. refl, λ e. refl)
  finished_same one_fault = (λ e. let z : ◌≡◌ {A = ℕ} 0 1 = cc in absurd (omega arith), λ e. let z : ◌≡◌ {A = ℕ} 0 1 = cc in absurd (omega arith))

  obstructed_same : (Obstructed m γ (serial m).log → Obstructed l γ (serial l).log) × (Obstructed l γ (serial l).log → Obstructed m γ (serial m).log)
  obstructed_same =
      let e : Obstructed m γ (serial m).log ≡ Obstructed l γ (serial l).log = (λ i. (c : ℕ) × ObstacleAt (h.class i c) (λ k. only γ k (same.log i)) c) in
      (subst (λ (A : Type 0). A) e, subst (λ (A : Type 0). A) (sym e))

  passes_there : SerialPasses l γ → SerialPasses m γ
  passes_there p = record { faultless = (finished_same same.outcome).0 p.faultless; free = λ o. p.free (obstructed_same.0 o) }

  passes_back : SerialPasses m γ → SerialPasses l γ
  passes_back p = record { faultless = (finished_same same.outcome).1 p.faultless; free = λ o. p.free (obstructed_same.1 o) }

  -- ---- what is settled

  again_same : {o p : Outcome} → SameOutcome o p → SameEnding (again l o) (again m p)
  unfolding again
  again_same no_fault = record {
    answer = subst₂ (λ (a b : ℕ). SameAnswer (rerun a b) (rerun (pairs m (serial m).log) (written_cells m (serial m).log))) pairs_same written_same both_rerun;
    cells = cells_same;
  }
  again_same one_fault = record { answer = both_faulted; cells = λ i. listed (h.size i) (h.entry i) }

  by_passes : (d : Dec (SerialPasses l γ)) (e : Dec (SerialPasses m γ)) → SameEnding (settled_by l γ d) (settled_by m γ e)
  unfolding settled_by
  by_passes (yes p) (yes q) = record {
    answer = subst₂ (λ (a b : ℕ). SameAnswer (passed a b) (passed (pairs m (serial m).log) (written_cells m (serial m).log))) pairs_same written_same both_passed;
    cells = cells_same;
  }
  by_passes (yes p) (no f) = absurd (f (passes_there p))
  by_passes (no f) (yes q) = absurd (f (passes_back q))
  by_passes (no f) (no g) = again_same same.outcome

  pub loop_settled : SameEnding (settled l γ) (settled m γ)
  unfolding settled
  loop_settled = by_passes (serial_passes? l γ) (serial_passes? m γ)
