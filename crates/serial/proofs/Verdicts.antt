-- What Run answers (crates/rules, Answer), by what the functions leave and what is read off.
use mathlib.Core.Path.{◌≡◌, refl}
use mathlib.Core.Logic.{◌⊎◌, inl, inr, ◌↔◌}
use mathlib.Core.Bool.{Bool, true, false}
use mathlib.Core.List.{List}
use Prim.Native.Nat.{ℕ}
use native.Mathlib.Omega.{arith}
use Rattle.rules.specs.Cells.{listed}
use Rattle.rules.specs.Loop.{Loop, Partition}
use Rattle.rules.specs.Obstacles.{Obstructed}
use Rattle.rules.specs.Merge.{merged, pairs, written_cells}
use Rattle.rules.specs.Serial.{serial}
use Rattle.rules.specs.Steps.{State, trial, Faulty}
use Rattle.rules.specs.Answer.{passed, TrialPasses, trial_passes?, again, run_by, run}

module _ (l : Loop) (δ : Partition) (ps : List ℕ) where
  abbrev s : State
  s = trial l δ ps

  by_yes : (d : Dec (TrialPasses l δ ps)) → TrialPasses l δ ps
      → run_by l δ ps d ≡ record { answer = passed (pairs l s.log) (written_cells l s.log); cells = listed l.size (merged l δ s) }
  unfolding run_by
  by_yes (yes t) h = refl
  by_yes (no f) h = absurd (f h)

  by_no : (d : Dec (TrialPasses l δ ps)) → ¬ TrialPasses l δ ps → run_by l δ ps d ≡ again l (serial l).outcome
  unfolding run_by
  by_no (yes t) h = absurd (h t)
  by_no (no f) h = refl

  module _ (faulty blocked : Bool) (a : Faulty δ s ↔ (faulty ≡ true)) (b : Obstructed l δ.group s.log ↔ (blocked ≡ true)) where
    -- neither fault nor obstacle: the trial's cells, merged, with the trial's counts
    pub run_passed : faulty ≡ false → blocked ≡ false
        → run l δ ps ≡ record { answer = passed (pairs l s.log) (written_cells l s.log); cells = listed l.size (merged l δ s) }
    unfolding run
    run_passed x y = by_yes (trial_passes? l δ ps) (record {
      faultless = λ f. let z : ◌≡◌ {A = ℕ} 0 1 = cc (x, a.0 f) in omega arith;
      free = λ o. let z : ◌≡◌ {A = ℕ} 0 1 = cc (y, b.0 o) in omega arith;
    })

    -- a fault or an obstacle: the serial run
    pub run_again : (faulty ≡ true) ⊎ (blocked ≡ true) → run l δ ps ≡ again l (serial l).outcome
    unfolding run
    run_again h = by_no (trial_passes? l δ ps) (λ t. elim h [ inl x ↦ t.faultless (a.1 x) | inr y ↦ t.free (b.1 y) ])
