-- Run's answer is the one that the serial run settles.
use mathlib.Core.Path.{◌≡◌, refl, sym, ◌∙◌, ap, fun_ext}
use mathlib.Core.List.{List}
use Prim.Native.Nat.{ℕ}
use lib.IntN.{ℤ}
use Rattle.rules.specs.Loop.{Loop, Partition}
use Rattle.rules.specs.Proper.{Proper}
use Rattle.rules.specs.Cells.{listed}
use Rattle.rules.specs.Serial.{serial}
use Rattle.rules.specs.Answer.{AlikeButForTheWord, TrialPasses, SerialPasses, trial_passes?, serial_passes?, again, run_by, run, settled_by, settled}
use Rattle.rules.proofs.Order.{passes}
use Rattle.rules.proofs.Passed.{same_of_passed}

module _ (l : Loop) (δ : Partition) (h : Proper l δ) (ps : List ℕ) where
  by_cases : (d : Dec (TrialPasses l δ ps)) (e : Dec (SerialPasses l δ.group)) → run_by l δ ps d ≡ settled_by l δ.group e
  unfolding run_by settled_by
  by_cases (yes t) (yes s) =
      let m = same_of_passed l δ h ps t in let c = ap (λ (f : ℕ → ℤ). listed l.size f) (fun_ext m.cells) in cc (m.pair_count, m.cell_count)
  by_cases (yes t) (no f) = absurd (f ((passes l δ h ps).0 t))
  by_cases (no f) (yes s) = absurd (f ((passes l δ h ps).1 s))
  by_cases (no f) (no g) = refl

  pub run_settles : run l δ ps ≡ settled l δ.group
  unfolding run settled
  run_settles = by_cases (trial_passes? l δ ps) (serial_passes? l δ.group)

-- but for the word passed or rerun, the serial run settles what it would with an obstacle
module _ (l : Loop) where
  wordless_by : (γ : ℕ → ℕ) (d : Dec (SerialPasses l γ)) → AlikeButForTheWord (settled_by l γ d) (again l (serial l).outcome)
  unfolding settled_by again
  wordless_by γ (yes s) = rw s.faultless (record { answer = refl; cells = refl })
  wordless_by γ (no f) = record { answer = refl; cells = refl }

  pub settled_alike : (γ ε : ℕ → ℕ) → AlikeButForTheWord (settled l γ) (settled l ε)
  unfolding settled
  settled_alike γ ε =
      let a = wordless_by γ (serial_passes? l γ) in
      let b = wordless_by ε (serial_passes? l ε) in
      record { answer = a.answer ∙ sym b.answer; cells = a.cells ∙ sym b.cells }
