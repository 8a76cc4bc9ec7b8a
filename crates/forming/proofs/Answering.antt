-- What Print answers and leaves, by the verdict on the text and by the bytes lent.
use mathlib.Core.Path.{◌≡◌, refl, sym, ◌∙◌, ap, subst}
use mathlib.Core.Bool.{Bool, cond}
use mathlib.Core.List.{List, [], ◌∷◌, ◌++◌, map}
use Prim.Native.Nat.{ℕ, ◌+◌, ◌≤◌, ◌<◌}
use native.Mathlib.Omega.{arith}
use lib.ListN.{length, drop, length-map}
use lib.Seq.{sets-eq}
use lib.IntN.{ℤ}
use borrow.Author.Tests.{le-leb, lt-leb}
use Rattle.syntax.specs.Bytes.{lower}
use Rattle.syntax.specs.Text.{Verdict, read}
use Rattle.std.specs.Prelude.{Result, Ok, Err}
use Rattle.lines.specs.declared.Progress.{Progress}
use Rattle.printed.specs.Form.{program, form}
use Rattle.printed.proofs.Programs.{accepted}
use Rattle.printed.proofs.Theorem.{form_bound}
use Rattle.answers.specs.declared.Refusal.{Refusal}
use Rattle.answers.specs.Answers.{refuse, taken, form_answered, form_written, print_of, bytes_printed}
use Rattle.preparing.proofs.Verdicts.{refusal_is}
use Rattle.preparing.specs.Prepared.{Accepts, Refuses}
use Rattle.writing.specs.Written.{Writes, Fits}
use Rattle.forming.specs.Lines.{GoodLines, lines_form}
use Rattle.forming.proofs.Whole.{text_prints}

-- ---- a form, by the bytes lent

module _ (f b : List ℕ) where
  -- too few
  pub form_refused : length b < length f → (refuse 12 0 ≡ form_answered f (length b)) × (b ≡ form_written f b)
  form_refused h =
      let e = lt-leb (length f) (length b) h in (
        sym (ap (λ (c : Bool). let m = cond c 0 12 in taken m (Ok (length f)) (refuse m 0)) e),
        sym (ap (λ (c : Bool). taken (cond c 0 12) (f ++ drop (length f) b) b) e),
      )

  -- enough
  pub form_given : {a : List ℕ} {r : ℕ} → length f ≤ length b → Writes b 0 f a r → (Ok r ≡ form_answered f (length b)) × (a ≡ form_written f b)
  form_given {r = r} h w =
      let e = le-leb (length f) (length b) h in
      let z : r ≡ length f = omega (arith, w.place) in
      let y : 0 + length f ≡ length f = omega arith in (
        ap Ok z ∙ sym (ap (λ (c : Bool). let m = cond c 0 12 in taken m (Ok (length f)) (refuse m 0)) e),
        w.bytes ∙ sets-eq f b 0 (omega arith) ∙ ap (λ (n : ℕ). f ++ drop n b) y
            ∙ sym (ap (λ (c : Bool). taken (cond c 0 12) (f ++ drop (length f) b) b) e),
      )

-- the bytes lent, after none of them was written
pub none_lent : (l b : List ℕ) → length l ≡ 0 → l ++ b ≡ b
none_lent [] b h = refl
none_lent (x ∷ l) b h = absurd (omega (arith, h))

-- ---- the verdict

pub print_refused : (v : Verdict) (e : Refusal) (text b : List ℕ) → Refuses v e → (Err e ≡ print_of v text (length b)) × (b ≡ bytes_printed v text b)
unfolding print_of bytes_printed
print_refused v e text b r =
    (ap Err (refusal_is r) ∙ sym (ap (λ (x : Verdict). print_of x text (length b)) r.verdict), sym (ap (λ (x : Verdict). bytes_printed x text b) r.verdict))

module _ (text : List ℕ) (p : Progress) (T : List ℕ) (I : List ℤ) (C : List ℕ) (v : Accepts (read text) p T I C) (b : List ℕ) where
  pub fine_short : length text ≤ 2048
  fine_short = (accepted text v.state v.verdict).follows.short

  -- of an accepted text, in lower case
  module _ (s : List ℕ) (e : s ≡ map lower text) where
    lines_form_lem : lines_form s ≡ form text
    unfolding lines_form form
    lines_form_lem = ap lines_form e ∙ (text_prints text (program text) (accepted text v.state v.verdict).follows).whole

    pub fine_low : length s ≤ 2048
    fine_low = omega (arith, ap length e, length-map text lower, fine_short)

    pub fine_lines : GoodLines s
    fine_lines = subst GoodLines (sym e) (text_prints text (program text) (accepted text v.state v.verdict).follows).good

    pub fine_fits : Fits 0 (lines_form s)
    fine_fits = omega (arith, ap length lines_form_lem, form_bound text v.state v.verdict)

    pub print_fine : {x : Result ℕ Refusal} {a : List ℕ} → x ≡ form_answered (lines_form s) (length b) → a ≡ form_written (lines_form s) b
        → (x ≡ print_of (read text) text (length b)) × (a ≡ bytes_printed (read text) text b)
    unfolding print_of bytes_printed
    print_fine h q = (
      h ∙ ap (λ (f : List ℕ). form_answered f (length b)) lines_form_lem ∙ sym (ap (λ (x : Verdict). print_of x text (length b)) v.verdict),
      q ∙ ap (λ (f : List ℕ). form_written f b) lines_form_lem ∙ sym (ap (λ (x : Verdict). bytes_printed x text b) v.verdict),
    )
