-- Order decides nothing: under every schedule the trial passes exactly when the serial run does, and then each group of iterations makes the same
-- accesses in both.
use mathlib.Core.Path.{◌≡◌, sym, ◌∙◌, ap}
use mathlib.Core.Logic.{inl, inr, ◌↔◌}
use mathlib.Core.List.{List}
use Prim.Native.Nat.{ℕ}
use native.Mathlib.Omega.{arith}
use Rattle.rules.specs.Loop.{Loop, Partition}
use Rattle.rules.proofs.Job.{idle}
use Rattle.rules.specs.Log.{only, each}
use Rattle.rules.specs.LogLaws.{only_only}
use Rattle.rules.proofs.Runs.{Clean, clean_of_run, free_of_clean, no_fault_of_clean, log_of_clean}
use Rattle.rules.specs.Proper.{Proper}
use Rattle.rules.specs.Steps.{trial}
use Rattle.rules.specs.Serial.{finished, failed, serial}
use Rattle.rules.proofs.TrialRun.{rest, Invariant, trial_holds}
use Rattle.rules.proofs.TrialEnd.{all_done, fault_left}
use Rattle.rules.proofs.SerialRun.{serial_ends}
use Rattle.rules.specs.Answer.{TrialPasses, SerialPasses}

module _ (l : Loop) (δ : Partition) (h : Proper l δ) where
  open serial_ends l δ h use {work, status, how}

  pub serial_done : Clean l δ → ((serial l).outcome ≡ finished) × ((i : ℕ) → work i ≡ idle)
  serial_done k = elim how [ inl x ↦ x | inr (n, t, i, o, e) ↦ absurd (no_fault_of_clean l δ (serial l).log work k status (δ.group i) i n t e) ]

  clean_of_serial : SerialPasses l δ.group → Clean l δ
  clean_of_serial s = clean_of_run l δ (serial l).log work status (elim how [ inl x ↦ x.1 | inr x ↦ absurd (failed_not x.3) ]) s.free
    where
      failed_not : {n t i : ℕ} → (serial l).outcome ≡ failed n t i → ⊥
      failed_not {n} {t} {i} e = let f = s.faultless in let z : ◌≡◌ {A = ℕ} 0 1 = cc in omega arith

  serial_of_clean : Clean l δ → SerialPasses l δ.group
  serial_of_clean k = record { faultless = (serial_done k).0; free = free_of_clean l δ (serial l).log work k status }

  module _ (ps : List ℕ) where
    inv : Invariant l δ (trial l δ ps)
    inv = trial_holds l δ h ps

    pub clean_of_trial : TrialPasses l δ ps → Clean l δ
    clean_of_trial t = clean_of_run l δ (trial l δ ps).log (rest l δ (trial l δ ps)) inv.status (all_done l δ h ps inv t.faultless) t.free

    trial_of_clean : Clean l δ → TrialPasses l δ ps
    trial_of_clean k = record {
      faultless = λ f.
          let r = fault_left l δ h ps inv f in
          no_fault_of_clean l δ (trial l δ ps).log (rest l δ (trial l δ ps)) k inv.status r.0 r.1 r.2 r.3 r.4;
      free = free_of_clean l δ (trial l δ ps).log (rest l δ (trial l δ ps)) k inv.status;
    }

    pub passes : TrialPasses l δ ps ↔ SerialPasses l δ.group
    passes = (λ t. serial_of_clean (clean_of_trial t), λ s. trial_of_clean (clean_of_serial s))

    pub same_accesses : TrialPasses l δ ps → (i : ℕ) → only δ.group i (trial l δ ps).log ≡ only δ.group i (serial l).log
    same_accesses t i =
        let k = clean_of_trial t in
        log_of_clean l δ (trial l δ ps).log (rest l δ (trial l δ ps)) k inv.status (all_done l δ h ps inv t.faultless) i
        ∙ sym (log_of_clean l δ (serial l).log work k status (serial_done k).1 i)

    pub same_each : TrialPasses l δ ps → (i : ℕ) → each i (trial l δ ps).log ≡ each i (serial l).log
    same_each t i = sym (only_only δ.group i (trial l δ ps).log) ∙ ap (each i) (same_accesses t (δ.group i)) ∙ only_only δ.group i (serial l).log
