-- The trial of a text.
use mathlib.Core.Path.{◌≡◌, refl, sym, ◌∙◌, ap, subst, subst₂}
use mathlib.Core.Logic.{◌↔◌}
use mathlib.Core.Bool.{Bool, true}
use mathlib.Core.List.{List}
use Prim.Native.Nat.{ℕ, zero, suc, ◌<◌}
use native.Mathlib.Omega.{arith}
use lib.ListN.{length, take}
use lib.IntN.{ℤ}
use Rattle.rules.specs.declared.Class.{Class}
use Rattle.rules.specs.Loop.{Loop}
use Rattle.rules.specs.Obstacles.{Obstructed}
use Rattle.rules.specs.Steps.{Faulty}
use Rattle.syntax.specs.Known.{State}
use Rattle.syntax.specs.Text.{Verdict, refused, good, read}
use Rattle.syntax.specs.Meaning.{loop_of, partition_of}
use Rattle.code.specs.Instr.{words}
use Rattle.code.specs.Compile.{code_of}
use Rattle.trial.specs.declared.Setting.{Setting}
use Rattle.trial.specs.declared.Worker.{Worker}
use Rattle.trial.specs.Running.{dealt, Run, AllOver}
use Rattle.trial.specs.Start.{Starts, Tries as TriesLoop}
use Rattle.outcome.specs.Leaves.{Leaves}
use Rattle.trial.specs.Standing.{Stands}
use Rattle.outcome.specs.ReadOff.{Fails, Judges}
use Rattle.outcome.proofs.ReadingOff.{fails_right}
use Rattle.outcome.proofs.Leaving.{run_leaves}
use Rattle.rules.specs.Steps as rule
use Rattle.std.specs.Prelude.{Result, Ok, Err}
use Rattle.preparing.specs.declared.Ready.{Ready}
use Rattle.preparing.specs.Prepared.{Readies, RefusesRun}
use Rattle.trying.specs.declared.Tried.{Tried}
use Rattle.answers.specs.declared.Refusal.{Refusal}
use Rattle.answers.specs.Answers.{refusal_at, run_number}
use Rattle.trying.specs.Trial.{TriesBy, TrialOf}
use Rattle.setup.specs.Settings.{setting_of}
use Rattle.preparing.proofs.Beginning.{begins, setting_is as setting_as}

module _ (text : List ℕ) (M : List ℤ) (W ps : List ℕ) where
  by_number : (s : State) (n : ℕ) (t : Result Tried Refusal) (M' : List ℤ) (W' : List ℕ) → read text ≡ good s
      → run_number s (length M) (length W) ps ≡ n → TriesBy s n M W ps t M' W' → TrialOf (read text) M W ps t M' W'
  unfolding TrialOf
  by_number s n t M' W' e en h =
      subst (λ (v : Verdict). TrialOf v M W ps t M' W') (sym e) (subst (λ (k : ℕ). TriesBy s k M W ps t M' W') (sym en) h)

  pub try_refused : (e : Refusal) → RefusesRun (read text) (length M) (length W) ps e → TrialOf (read text) M W ps (Err e) M W
  unfolding TrialOf
  try_refused e h = go (read text) refl h
    where
      by : (s : State) (n : ℕ) → read text ≡ good s → run_number s (length M) (length W) ps ≡ n → (e ≡ refusal_at n 0) × (0 < n)
          → TrialOf (read text) M W ps (Err e) M W
      by s zero q en h = absurd (omega arith)
      by s (suc k) q en h = by_number s (suc k) (Err e) M W q en (ap Err h.0, refl, refl, h.1)

      go : (v : Verdict) → read text ≡ v → RefusesRun v (length M) (length W) ps e → TrialOf (read text) M W ps (Err e) M W
      go (refused n k) q h = subst (λ (v : Verdict). TrialOf v M W ps (Err e) M W) (sym q) (ap Err h.0, refl, refl, h.1)
      go (good s) q h = by s (run_number s (length M) (length W) ps) q refl h

  module _ (r : Ready) (K : List ℕ) (C : List Class) (a : Readies (read text) (length M) (length W) ps r K C) where
    abbrev s : State
    s = a.state

    abbrev K' : List ℕ
    K' = take r.end K

    abbrev l : Loop
    l = loop_of s M

    starts_now : Starts K' r.setting l M C (length W)
    starts_now = begins text M (length W) ps r K C a

    setting_is : r.setting ≡ setting_of s
    setting_is = setting_as text M (length W) ps r K C a

    -- some cell may be judged after the trial
    pub stands_there : (M' : List ℤ) (W' : List ℕ) (ws : List Worker) → TriesLoop K' r.setting M C ps (length W) M' W' ws
        → Stands r.setting.processors M' W'
    stands_there M' W' ws tl = (l, dealt r.setting, rule.trial l (dealt r.setting) ps, (tl l starts_now).running.standing)

    module _ (M' : List ℤ) (W' : List ℕ) (ws : List Worker) (f b : Bool) (tl : TriesLoop K' r.setting M C ps (length W) M' W' ws)
        (ov : AllOver r.setting ws) (fl : Fails r.setting.processors ws f) where
      -- what is said of code k and setting g
      Said : List ℕ → Setting → Type 0
      Said k g =
          Run k g l M' W' ws (rule.trial l (dealt g) ps)
          × Leaves k g l (rule.trial l (dealt g) ps) M' W' ws
          × (Faulty (dealt g) (rule.trial l (dealt g) ps) ↔ (f ≡ true))
          × (Judges g.processors M' W' b → Obstructed l (dealt g).group (rule.trial l (dealt g) ps).log ↔ (b ≡ true))

      said : Said K' r.setting
      unfolding Said
      said =
          let δ = dealt r.setting in
          let run = tl l starts_now in (
            run,
            run_leaves K' r.setting l M' W' ws (rule.trial l δ ps) run ov,
            fails_right K' r.setting l M' W' ws (rule.trial l δ ps) run ov f fl,
            λ jd. jd l δ (rule.trial l δ ps) run.running.standing,
          )

      said_of : Said (words (code_of s)) (setting_of s)
      said_of = subst₂ Said a.prepares.code setting_is said

      pub try_done : Judges r.setting.processors M' W' b
          → TrialOf (read text) M W ps (Ok (record { processors = r.setting.processors; faulty = f; obstructed = b; workers = ws })) M' W'
      unfolding Said loop_of partition_of
      try_done jd =
          let q = said_of in
          let t : Tried = record { processors = r.setting.processors; faulty = f; obstructed = b; workers = ws } in
          by_number s 0 (Ok t) M' W' a.verdict a.fits (record {
            processors = a.prepares.processors;
            leaves = q.1;
            faulty = q.2;
            obstructed = q.3 (subst (λ (k : ℕ). Judges k M' W' b) a.prepares.processors jd);
            run = q.0;
          })
