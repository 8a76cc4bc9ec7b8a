-- Run settles what the serial run settles.
use mathlib.Core.Path.{◌≡◌, refl, sym, ◌∙◌, ap, subst}
use mathlib.Core.Bool.{true, false, ◌||◌}
use mathlib.Core.List.{List, []}
use Prim.Native.Nat.{ℕ, zero, suc, ◌≤◌}
use native.Mathlib.Omega.{arith}
use lib.ListN.{length, get_or, replicate}
use lib.IntN.{ℤ}
use Rattle.rules.specs.Cells.{cell_of, listed}
use Rattle.rules.specs.Loop.{Loop, Partition}
use Rattle.rules.specs.Answer.{passed, Ending, again, run}
use Rattle.rules.specs.Merge.{merged, pairs, written_cells}
use Rattle.rules.specs.Serial.{Outcome, finished, failed, serial}
use Rattle.rules.specs.Steps.{trial}
use Rattle.rules.proofs.CellsLaws.{listed_cells}
use Rattle.rules.proofs.Theorem.{order_decides_nothing}
use Rattle.syntax.specs.Known.{State, cells}
use Rattle.syntax.specs.Flaws.{flaw_number}
use Rattle.syntax.specs.Text.{Verdict, refused, good, read}
use Rattle.syntax.specs.Meaning.{loop_of, partition_of}
use Rattle.syntax.proofs.TestLaws.{either_holds, neither_holds}
use Rattle.syntax.proofs.ProperLoop.{accepted_proper}
use Rattle.trial.specs.Standing.{Standing, Kept}
use Rattle.trial.specs.Standing.{Stands}
use Rattle.outcome.specs.ReadOff.{Merges, CanRestore, Restores}
use Rattle.outcome.proofs.ReadingOff.{standing_kept}
use Rattle.serial.specs.Serving.{by_one}
use Rattle.serial.proofs.Verdicts.{run_passed, run_again}
use Rattle.trying.specs.declared.Tried.{Tried}
use Rattle.std.specs.Prelude.{Result, Ok, Err}
use Rattle.answers.specs.declared.Counts.{Counts}
use Rattle.answers.specs.declared.Failure.{Failure}
use Rattle.answers.specs.declared.Failure.TheVariants.{Refused, Faulted}
use Rattle.answers.specs.declared.Ran.{Ran}
use Rattle.answers.specs.declared.Ran.TheVariants.{Passed}
use Rattle.answers.specs.declared.Refusal.{Refusal}
use Rattle.answers.specs.Answers.{refuse, counted, fail, fit_number, run_number, taken, answered, settles, run_of, cells_run, run_workspace}
use Rattle.trying.specs.Trial.{Tries, TriesBy, TrialOf}
use Rattle.serving.specs.Serial.{Serves, ServesBy, SerialOf, served_by}
use Rattle.outcome.specs.Concluding.{CanConclude, ConcludesBy}
use Rattle.fitting.proofs.Fits.{Fits, fit_zero, fits_none}

module _ (text : List ℕ) (M : List ℤ) (W ps : List ℕ) where
  -- the answer, the cells and the workspace
  abbrev pub Runs : Result Ran Failure → List ℤ → List ℕ → Type 0
  Runs r M' W' = (r ≡ run_of (read text) M (length W) ps) × ((M' ≡ cells_run (read text) M (length W) ps) × (W' ≡ run_workspace (read text) M W ps))

  by_number : (s : State) (n : ℕ) (r : Result Ran Failure) (M' : List ℤ) (W' : List ℕ) → read text ≡ good s → run_number s (length M) (length W) ps ≡ n
      → r ≡ taken n (answered s (settles s M).answer) (fail n 0) → M' ≡ taken n (settles s M).cells M → W' ≡ taken n (replicate (length W) 0) W
      → Runs r M' W'
  unfolding run_of cells_run run_workspace
  by_number s n r M' W' e en er em ew = (
    er ∙ ap (λ (k : ℕ). taken k (answered s (settles s M).answer) (fail k 0)) (sym en) ∙ sym (ap (λ (v : Verdict). run_of v M (length W) ps) e),
    (
      em ∙ ap (λ (k : ℕ). taken k (settles s M).cells M) (sym en) ∙ sym (ap (λ (v : Verdict). cells_run v M (length W) ps) e),
      ew ∙ ap (λ (k : ℕ). taken k (replicate (length W) 0) W) (sym en) ∙ sym (ap (λ (v : Verdict). run_workspace v M W ps) e),
    ),
  )

  -- no trial was made
  pub run_refused : (e : Refusal) (M₁ : List ℤ) (W₁ : List ℕ) → TrialOf (read text) M W ps (Err e) M₁ W₁ → Runs (Err (Refused e)) M₁ W₁
  unfolding TrialOf run_of cells_run run_workspace
  run_refused e M₁ W₁ h = go (read text) refl h
    where
      named : {x : Refusal} → ◌≡◌ {A = Result Tried Refusal} (Err e) (Err x) → ◌≡◌ {A = Result Ran Failure} (Err (Refused e)) (Err (Refused x))
      named q = cc

      fine : (s : State) → read text ≡ good s → (n : ℕ) → run_number s (length M) (length W) ps ≡ n → TriesBy s n M W ps (Err e) M₁ W₁
          → Runs (Err (Refused e)) M₁ W₁
      fine s v zero en q = absurd q
      fine s v (suc n) en q = by_number s (suc n) (Err (Refused e)) M₁ W₁ v en (named q.0) q.1 q.2

      go : (v : Verdict) → read text ≡ v → TrialOf v M W ps (Err e) M₁ W₁ → Runs (Err (Refused e)) M₁ W₁
      go (refused n k) v q = (
        named q.0 ∙ sym (ap (λ (v : Verdict). run_of v M (length W) ps) v),
        (q.1 ∙ sym (ap (λ (v : Verdict). cells_run v M (length W) ps) v), q.2 ∙ sym (ap (λ (v : Verdict). run_workspace v M W ps) v)),
      )
      go (good s) v q = fine s v (run_number s (length M) (length W) ps) refl q

  module _ (t : Tried) (M₁ : List ℤ) (W₁ : List ℕ) (h : TrialOf (read text) M W ps (Ok t) M₁ W₁) where
    -- a trial was made
    pub record Made : Type 0 where
      pub state : State
      pub verdict : read text ≡ good state
      pub fits : run_number state (length M) (length W) ps ≡ 0
      pub tries : Tries state M ps t M₁ W₁

    pub was_made : Made
    unfolding TrialOf
    was_made = go (read text) refl h
      where
        fine : (s : State) → read text ≡ good s → (n : ℕ) → run_number s (length M) (length W) ps ≡ n → TriesBy s n M W ps (Ok t) M₁ W₁ → Made
        fine s e zero en q = record { state = s; verdict = e; fits = en; tries = q }
        fine s e (suc n) en q = let z : ◌≡◌ {A = Result Tried Refusal} (Ok t) (refuse (suc n) 0) = q.0 in cc

        go : (v : Verdict) → read text ≡ v → TrialOf v M W ps (Ok t) M₁ W₁ → Made
        go (refused f k) e q = let z : ◌≡◌ {A = Result Tried Refusal} (Ok t) (refuse (flaw_number f) k) = q.0 in cc
        go (good s) e q = fine s e (run_number s (length M) (length W) ps) refl q

    abbrev m : Made
    m = was_made

    abbrev s : State
    s = m.state

    abbrev l : Loop
    l = loop_of s M

    abbrev δ : Partition
    δ = partition_of s

    fit : Fits (cells s.table) s.processors (length M) (length W) ps
    fit = fit_zero (cells s.table) s.processors (length M) (length W) ps m.fits

    pub words_two : 2 ≤ length W
    words_two = omega (arith, fit.words_are)

    -- demand 3: the trial under this schedule, kept or rejected, comes to what the serial run settles
    settles_so : settles s M ≡ run l δ ps
    settles_so = sym (order_decides_nothing l δ (accepted_proper text s M m.verdict) ps)

    standing : Standing s.processors l δ M₁ W₁ (trial l δ ps)
    unfolding partition_of
    standing = m.tries.run.running.standing

    pub stands_so : Stands t.processors M₁ W₁
    stands_so = subst (λ (k : ℕ). Stands k M₁ W₁) (sym m.tries.processors) (l, δ, trial l δ ps, standing)

    kept : Kept s.processors l δ M₁ W₁
    kept = standing_kept s.processors l δ M₁ W₁ (trial l δ ps) standing

    pub can_restore : CanRestore t.processors M₁ W₁
    can_restore = subst (λ (k : ℕ). CanRestore k M₁ W₁) (sym m.tries.processors) (l, δ, kept)

    entry_is : listed l.size l.entry ≡ M
    unfolding loop_of
    entry_is = ap (λ (k : ℕ). listed k (cell_of M)) (sym fit.cells_are) ∙ listed_cells M

    pub restored : (M₂ : List ℤ) → Restores t.processors M₁ W₁ M₂ → M₂ ≡ M
    restored M₂ rs = subst (λ (k : ℕ). Restores k M₁ W₁ M₂) m.tries.processors rs l δ kept ∙ entry_is

    -- ---- neither fault nor obstacle

    module _ (no : t.faulty || t.obstructed ≡ false) where
      kept_all : run l δ ps
          ≡ record {
            answer = passed (pairs l (trial l δ ps).log) (written_cells l (trial l δ ps).log);
            cells = listed l.size (merged l δ (trial l δ ps));
          }
      kept_all =
          let (e, f) = neither_holds t.faulty t.obstructed no in
          run_passed l δ ps t.faulty t.obstructed m.tries.faulty m.tries.obstructed e f

      pub run_keeps : (M₂ : List ℤ) (W₂ : List ℕ) (a b : ℕ) → Merges t.processors M₁ W₁ M₂ → a ≡ get_or W₁ 0 0 → b ≡ get_or W₁ 1 0
          → W₂ ≡ replicate (length W) 0 → Runs (Ok (Passed (counted a b))) M₂ W₂
      run_keeps M₂ W₂ a b mg ea eb ew =
          let q = settles_so ∙ kept_all in
          by_number s 0 (Ok (Passed (counted a b))) M₂ W₂ m.verdict m.fits
          ((λ i. Ok (Passed (counted ((ea ∙ m.tries.leaves.pair_count) i) ((eb ∙ m.tries.leaves.cell_count) i))))
          ∙ sym (ap (λ (e : Ending). answered s e.answer) q))
          (subst (λ (k : ℕ). Merges k M₁ W₁ M₂) m.tries.processors mg l δ (trial l δ ps) standing
          ∙ sym (ap (λ (e : Ending). e.cells) q))
          ew

    -- ---- a fault or an obstacle

    module _ (M₂ : List ℤ) (rs : Restores t.processors M₁ W₁ M₂) (same_words : length W₁ ≡ length W) (r : Result Counts Failure) (M₃ : List ℤ) (W₃ : List ℕ)
        (so : SerialOf (read text) M₂ W₁ r M₃ W₃) where
      none_refused : run_number s (length M₂) (length W₁) [] ≡ 0
      none_refused =
          (λ i. fit_number (cells s.table) s.processors (length (restored M₂ rs i)) (same_words i) [])
          ∙ fits_none (cells s.table) s.processors (length M) (length W) fit.cells_are fit.words_are

      serves : Serves s M r M₃ W₃
      unfolding SerialOf
      serves = subst (λ (u : List ℤ). Serves s u r M₃ W₃) (restored M₂ rs)
          (subst (λ (k : ℕ). ServesBy s k M₂ W₁ r M₃ W₃) none_refused (subst (λ (v : Verdict). SerialOf v M₂ W₁ r M₃ W₃) m.verdict so))

      pub can_conclude : CanConclude r M₃ W₃
      unfolding CanConclude
      can_conclude = go r
        where
          go : (x : Result Counts Failure) → CanConclude x M₃ W₃
          go (Ok k) = tt
          go (Err (Faulted f)) = (l, by_one l, serves.kept)
          go (Err (Refused k)) = tt

      module _ (yes : t.faulty || t.obstructed ≡ true) (long : length W₃ ≡ length W₁) (r' : Result Ran Failure) (M₄ : List ℤ) (W₄ : List ℕ)
          (cn : ConcludesBy r M₃ W₃ r' M₄ W₄) where
        made_again : settles s M ≡ again l (serial l).outcome
        made_again =
            settles_so
            ∙ run_again l δ ps t.faulty t.obstructed m.tries.faulty m.tries.obstructed (either_holds t.faulty t.obstructed yes)

        zeros : W₄ ≡ replicate (length W₃) 0 → W₄ ≡ replicate (length W) 0
        zeros e = e ∙ ap (λ (n : ℕ). replicate n 0) (long ∙ same_words)

        pub run_concludes : Runs r' M₄ W₄
        unfolding again ConcludesBy
        run_concludes = go (serial l).outcome serves.answer made_again
          where
            go : (o : Outcome) → r ≡ served_by s M o → settles s M ≡ again l o → Runs r' M₄ W₄
            go finished e q =
                let c = subst (λ (x : Result Counts Failure). ConcludesBy x M₃ W₃ r' M₄ W₄) e cn in
                by_number s 0 r' M₄ W₄ m.verdict m.fits (c.0 ∙ sym (ap (λ (x : Ending). answered s x.answer) q))
                (c.1 ∙ serves.cells ∙ sym (ap (λ (x : Ending). x.cells) q)) (zeros c.2)
            go (failed n k i) e q =
                let c = subst (λ (x : Result Counts Failure). ConcludesBy x M₃ W₃ r' M₄ W₄) e cn in
                by_number s 0 r' M₄ W₄ m.verdict m.fits (c.0 ∙ sym (ap (λ (x : Ending). answered s x.answer) q))
                (c.1 l (by_one l) serves.kept ∙ sym (ap (λ (x : Ending). x.cells) q)) (zeros c.2)
