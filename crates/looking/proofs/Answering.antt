-- Look's answer by the verdict on the text and by what is lent.
use mathlib.Core.Path.{◌≡◌, refl, sym, ◌∙◌, ap}
use mathlib.Core.Bool.{Bool, cond}
use mathlib.Core.List.{List}
use Prim.Native.Nat.{ℕ, zero, suc, ◌*◌, ◌<◌}
use native.Mathlib.Omega.{arith}
use borrow.Author.Tests.{eq-eqb, ne_eqb}
use lib.ListN.{length, take, replicate}
use lib.IntN.{ℤ}
use Rattle.rules.specs.declared.Class.{Class}
use Rattle.rules.specs.Loop.{Partition}
use Rattle.rules.specs.Answer.{look}
use Rattle.syntax.specs.Known.{State, cells}
use Rattle.syntax.specs.Text.{Verdict, refused, good, read}
use Rattle.syntax.specs.Meaning.{loop_of, partition_of}
use Rattle.std.specs.Prelude.{Result, Ok, Err}
use Rattle.preparing.specs.declared.Ready.{Ready}
use Rattle.preparing.specs.Prepared.{Readies, RefusesRun}
use Rattle.answers.specs.declared.Refusal.{Refusal}
use Rattle.answers.specs.Answers.{refusal_at, refuse, run_number, view_number, look_number, taken, completed, look_of, view_shown, look_workspace}
use Rattle.view.specs.View.{ShowsAfter}
use Rattle.preparing.proofs.Beginning.{fits, begins, as_dealt}

module _ (text : List ℕ) (M : List ℤ) (W ps U : List ℕ) where
  -- the answer, the view and the workspace
  abbrev pub Looks : Result Unit Refusal → List ℕ → List ℕ → Type 0
  Looks c U' W' =
      (c ≡ look_of (read text) M (length W) ps (length U))
      × ((U' ≡ view_shown (read text) M (length W) ps U) × (W' ≡ look_workspace (read text) M W ps (length U)))

  -- by its number
  by_number : (s : State) (n : ℕ) (c : Result Unit Refusal) (U' W' : List ℕ) → read text ≡ good s
      → look_number s (length M) (length W) ps (length U) ≡ n → c ≡ completed n → U' ≡ taken n (look (loop_of s M) (partition_of s) ps) U
      → W' ≡ taken n (replicate (length W) 0) W → Looks c U' W'
  unfolding look_of view_shown look_workspace
  by_number s n c U' W' e en ec eu ew = (
    ec ∙ ap completed (sym en) ∙ sym (ap (λ (v : Verdict). look_of v M (length W) ps (length U)) e),
    (
      eu ∙ ap (λ (k : ℕ). taken k (look (loop_of s M) (partition_of s) ps) U) (sym en) ∙ sym (ap (λ (v : Verdict). view_shown v M (length W) ps U) e),
      ew ∙ ap (λ (k : ℕ). taken k (replicate (length W) 0) W) (sym en) ∙ sym (ap (λ (v : Verdict). look_workspace v M W ps (length U)) e),
    ),
  )

  pub look_refused : (e : Refusal) → RefusesRun (read text) (length M) (length W) ps e → Looks (Err e) U W
  unfolding look_of view_shown look_workspace
  look_refused e h = go (read text) refl h
    where
      by : (s : State) (n : ℕ) → read text ≡ good s → run_number s (length M) (length W) ps ≡ n → (e ≡ refusal_at n 0) × (0 < n) → Looks (Err e) U W
      by s zero q en h = absurd (omega arith)
      by s (suc k) q en h = by_number s (suc k) (Err e) U W q (ap (view_number s (length U)) en) (ap Err h.0) refl refl

      go : (v : Verdict) → read text ≡ v → RefusesRun v (length M) (length W) ps e → Looks (Err e) U W
      go (refused n k) q h = (
        ap Err h.0 ∙ sym (ap (λ (v : Verdict). look_of v M (length W) ps (length U)) q),
        (sym (ap (λ (v : Verdict). view_shown v M (length W) ps U) q), sym (ap (λ (v : Verdict). look_workspace v M W ps (length U)) q)),
      )
      go (good s) q h = by s (run_number s (length M) (length W) ps) q refl h

  module _ (r : Ready) (K : List ℕ) (C : List Class) (a : Readies (read text) (length M) (length W) ps r K C) where
    abbrev st : State
    st = a.state

    sized : length M ≡ cells st.table
    sized = (fits text M (length W) ps r K C a).cells_are

    pub look_view : (length U ≡ 2 * length M → ⊥) → Looks (refuse 8 0) U W
    look_view b = by_number st 8 (refuse 8 0) U W a.verdict
        (ap (view_number st (length U)) a.fits
        ∙ ap (λ (x : Bool). cond x 0 8)
        (ne_eqb (length U) (2 * cells st.table)
        (λ (e : length U ≡ 2 * cells st.table). b (e ∙ ap (λ (k : ℕ). 2 * k) (sym sized)))))
        refl refl refl

    pub look_done : length U ≡ 2 * length M → (U' W' : List ℕ) → ShowsAfter (take r.end K) r.setting M C ps (length W) U'
        → W' ≡ replicate (length W) 0 → Looks (Ok tt) U' W'
    look_done b U' W' sh ew =
        by_number st 0 (Ok tt) U' W' a.verdict
        (ap (view_number st (length U)) a.fits
        ∙ ap (λ (x : Bool). cond x 0 8) (eq-eqb (length U) (2 * cells st.table) (b ∙ ap (λ (k : ℕ). 2 * k) sized)))
        refl
        (sh (loop_of st M) (begins text M (length W) ps r K C a)
        ∙ ap (λ (δ : Partition). look (loop_of st M) δ ps) (as_dealt text M (length W) ps r K C a))
        ew
