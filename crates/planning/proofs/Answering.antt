-- Plan's answer by the verdict on the text and by what is lent.
use mathlib.Core.Path.{◌≡◌, refl, sym, ◌∙◌, ap}
use mathlib.Core.Bool.{Bool, cond}
use mathlib.Core.List.{List, []}
use Prim.Native.Nat.{ℕ, zero, suc, ◌<◌}
use native.Mathlib.Omega.{arith}
use borrow.Author.Tests.{eq-eqb, ne_eqb}
use lib.Dec.{eqb}
use lib.ListN.{length, take, replicate}
use lib.IntN.{ℤ}
use Rattle.rules.specs.declared.Class.{Class}
use Rattle.rules.specs.Loop.{Loop}
use Rattle.rules.specs.Serial.{serial}
use Rattle.syntax.specs.Known.{State}
use Rattle.syntax.specs.Text.{Verdict, refused, good, read}
use Rattle.syntax.specs.Meaning.{loop_of}
use Rattle.serial.specs.Serving.{Serials}
use Rattle.serial.proofs.Starting.{serials_of}
use Rattle.std.specs.Prelude.{Result, Ok, Err}
use Rattle.preparing.specs.declared.Ready.{Ready}
use Rattle.preparing.specs.Prepared.{Readies, RefusesRun}
use Rattle.preparing.proofs.Beginning.{begins}
use Rattle.answers.specs.declared.Failure.{Failure}
use Rattle.answers.specs.declared.Failure.TheVariants.{Refused}
use Rattle.answers.specs.declared.Refusal.{Refusal}
use Rattle.answers.specs.Answers.{refusal_at, fail, run_number, list_number, plan_number, taken, staged, stages_written, plan_of, list_planned, plan_workspace}
use Rattle.planning.specs.Plan.{CanPlan, Plans}

module _ (text : List ℕ) (M : List ℤ) (W L : List ℕ) where
  -- the answer, the list and the workspace
  abbrev pub Answers : Result ℕ Failure → List ℕ → List ℕ → Type 0
  Answers p L' W' =
      (p ≡ plan_of (read text) M (length W) (length L))
      × ((L' ≡ list_planned (read text) M (length W) L) × (W' ≡ plan_workspace (read text) M W (length L)))

  -- by its number
  module _ (s : State) (n : ℕ) (e : read text ≡ good s) (en : plan_number s (length M) (length W) (length L) ≡ n) where
    abbrev l : Loop
    l = loop_of s M

    by_number : (p : Result ℕ Failure) (L' W' : List ℕ) → p ≡ taken n (staged l s.from (serial l).outcome) (fail n 0)
        → L' ≡ taken n (stages_written l L (serial l).outcome) L → W' ≡ taken n (replicate (length W) 0) W → Answers p L' W'
    unfolding plan_of list_planned plan_workspace
    by_number p L' W' ep el ew = (
      ep ∙ ap (λ (k : ℕ). taken k (staged l s.from (serial l).outcome) (fail k 0)) (sym en)
          ∙ sym (ap (λ (v : Verdict). plan_of v M (length W) (length L)) e),
      (
        el ∙ ap (λ (k : ℕ). taken k (stages_written l L (serial l).outcome) L) (sym en) ∙ sym (ap (λ (v : Verdict). list_planned v M (length W) L) e),
        ew ∙ ap (λ (k : ℕ). taken k (replicate (length W) 0) W) (sym en) ∙ sym (ap (λ (v : Verdict). plan_workspace v M W (length L)) e),
      ),
    )

  pub plan_refused : (e : Refusal) → RefusesRun (read text) (length M) (length W) [] e → Answers (Err (Refused e)) L W
  unfolding plan_of list_planned plan_workspace
  plan_refused e h = go (read text) refl h
    where
      by : (s : State) (n : ℕ) → read text ≡ good s → run_number s (length M) (length W) [] ≡ n → (e ≡ refusal_at n 0) × (0 < n)
          → Answers (Err (Refused e)) L W
      by s zero q en h = absurd (omega arith)
      by s (suc k) q en h = by_number s (suc k) q (ap (list_number s (length L)) en) (Err (Refused e)) L W
          (ap (λ (f : Refusal). Err (Refused f)) h.0) refl refl

      go : (v : Verdict) → read text ≡ v → RefusesRun v (length M) (length W) [] e → Answers (Err (Refused e)) L W
      go (refused n k) q h = (
        ap (λ (f : Refusal). Err (Refused f)) h.0 ∙ sym (ap (λ (v : Verdict). plan_of v M (length W) (length L)) q),
        (sym (ap (λ (v : Verdict). list_planned v M (length W) L) q), sym (ap (λ (v : Verdict). plan_workspace v M W (length L)) q)),
      )
      go (good s) q h = by s (run_number s (length M) (length W) []) q refl h

  module _ (r : Ready) (K : List ℕ) (C : List Class) (a : Readies (read text) (length M) (length W) [] r K C) where
    abbrev st : State
    st = a.state

    by_length : plan_number st (length M) (length W) (length L) ≡ cond (eqb (length L) st.count) 0 11
    by_length = ap (list_number st (length L)) a.fits

    pub plan_list : (length L ≡ r.setting.iterations → ⊥) → Answers (fail 11 0) L W
    plan_list b = by_number st 11 a.verdict
        (by_length ∙ ap (λ (x : Bool). cond x 0 11) (ne_eqb (length L) st.count (λ (e : length L ≡ st.count). b (e ∙ sym a.prepares.iterations))))
        (fail 11 0) L W refl refl refl

    module _ (b : length L ≡ r.setting.iterations) where
      abbrev K' : List ℕ
      K' = take r.end K

      serials : Serials K' r.setting (loop_of st M) M C (length W)
      serials = serials_of K' r.setting (loop_of st M) M C (length W) (begins text M (length W) [] r K C a)

      pub can_plan : CanPlan K' r.setting M C (length W) (length L)
      can_plan = record { loop = loop_of st M; serials = serials; numbers = b }

      pub plan_done : (p : Result ℕ Failure) (L' W' : List ℕ) → Plans K' r.setting M C (length W) L p L' → W' ≡ replicate (length W) 0
          → Answers p L' W'
      plan_done p L' W' h ew =
          let q = h (loop_of st M) serials in
          by_number st 0 a.verdict
          (by_length ∙ ap (λ (x : Bool). cond x 0 11) (eq-eqb (length L) st.count (b ∙ a.prepares.iterations)))
          p L' W' (q.answer ∙ ap (λ (v : ℤ). staged (loop_of st M) v (serial (loop_of st M)).outcome) a.prepares.from) q.list ew
