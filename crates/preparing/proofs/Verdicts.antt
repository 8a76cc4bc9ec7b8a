-- What the reader found, by the verdict on the text.
use mathlib.Core.Path.{◌≡◌, refl, sym, ◌∙◌, ap}
use mathlib.Core.List.{List}
use Prim.Native.Nat.{ℕ, ◌<◌}
use native.Mathlib.Omega.{arith}
use lib.IntN.{ℤ}
use Rattle.std.specs.Prelude.{Ok, Err}
use Rattle.syntax.specs.declared.Flaw.{Flaw}
use Rattle.syntax.specs.declared.Flaw.TheVariants.{TooLong, BrokenForm, WrongName, OverLimit}
use Rattle.syntax.specs.Flaws.{flaw_number}
use Rattle.syntax.specs.Text.{Verdict, refused, good, read}
use Rattle.lines.specs.declared.Progress.{Progress}
use Rattle.reader.specs.declared.BadLine.{BadLine}
use Rattle.reader.specs.Judged.{Reads}
use Rattle.answers.specs.declared.Refusal.{Refusal}
use Rattle.answers.specs.Answers.{refusal_at}
use Rattle.preparing.specs.Prepared.{Accepts, Refuses}

-- a refusal by its flaw, and what it answers
pub flaw_some : (f : Flaw) → 0 < flaw_number f
flaw_some TooLong = omega arith
flaw_some BrokenForm = omega arith
flaw_some WrongName = omega arith
flaw_some OverLimit = omega arith

pub refusal_is : {v : Verdict} {e : Refusal} → (r : Refuses v e) → e ≡ refusal_at (flaw_number r.flaw) e.line
refusal_is {v} {e} r = λ i. record { number = r.number i; line = e.line }

module _ (text : List ℕ) (T : List ℕ) (I : List ℤ) (C : List ℕ) where
  pub refuses : (b : BadLine) (n : ℕ) → Reads (read text) (Err b) T I C → n ≡ flaw_number b.flaw → Refuses (read text) (refusal_at n b.line)
  unfolding Reads
  refuses b n h en = go (read text) refl h
    where
      go : (v : Verdict) → read text ≡ v → Reads v (Err b) T I C → Refuses (read text) (refusal_at n b.line)
      go (refused f k) e q = record {
        flaw = f;
        verdict = e ∙ ap (λ (x : BadLine). refused f x.line) (sym q);
        number = en ∙ ap (λ (x : BadLine). flaw_number x.flaw) q;
      }
      go (good s) e q = absurd q

  pub accepts : (p : Progress) → Reads (read text) (Ok p) T I C → Accepts (read text) p T I C
  unfolding Reads
  accepts p h = go (read text) refl h
    where
      go : (v : Verdict) → read text ≡ v → Reads v (Ok p) T I C → Accepts (read text) p T I C
      go (refused f k) e q = absurd q
      go (good s) e q = record { state = s; verdict = e; opens = q.0; represents = q.1 }
