-- Where Run completes, the names of the text have their cells among those lent; and the report is then what is to be printed.
use mathlib.Core.Path.{◌≡◌, refl, sym, ◌∙◌, ap, subst}
use mathlib.Core.Bool.{Bool, true, false, cond}
use mathlib.Core.List.{List, [], ◌∷◌}
use Prim.Native.Nat.{ℕ, zero, suc, ◌≤◌, ◌<◌}
use native.Mathlib.Omega.{arith}
use borrow.Author.Tests.{eqb-true}
use lib.Dec.{eqb, leb}
use lib.ListN.{length, take, replicate}
use lib.IntN.{ℤ, pos}
use Rattle.names.specs.Table.{Tabled}
use Rattle.syntax.specs.Known.{State, cells}
use Rattle.syntax.specs.declared.Flaw.{Flaw}
use Rattle.syntax.specs.Text.{Verdict, refused, good, read}
use Rattle.syntax.proofs.Sane.{accepted_sane}
use Rattle.syntax.proofs.Table.{laid_at}
use Rattle.std.specs.Prelude.{Result, Ok, Err, IfOk, IfErr}
use Rattle.lines.specs.declared.Progress.{Progress}
use Rattle.preparing.specs.Prepared.{Refuses, Accepts}
use Rattle.answers.specs.Answers.{fail, needed, taken, run_number, answered, settles, check_of, cells_loaded, run_of, cells_run}
use Rattle.answers.specs.declared.Failure.{Failure}
use Rattle.answers.specs.declared.Ran.{Ran}
use Rattle.answers.specs.declared.Refusal.{Refusal}
use Rattle.answers.specs.declared.Sizes.{Sizes}
use Rattle.printing.specs.Printed.{report}
use Rattle.printing.specs.Written.{Holds, Completes, Reports}
use Rattle.printing.proofs.Lines.{cells_take, cells_part}
use Rattle.printing.proofs.NameBytes.{name_bytes}
use Rattle.lrpd.specs.Output.{lent_words, lent_for, names_of, printed_over, printed, Prints}

-- ---- the cells as lent

pub lent_few : (k : Result Sizes Refusal) → lent_for k ≤ 128
lent_few (Ok s) = omega arith
lent_few (Err e) = omega arith

first_zeros : (n k : ℕ) → n ≤ k → take n (replicate k (pos 0)) ≡ replicate n (pos 0)
first_zeros zero k h = refl
first_zeros (suc n) zero h = absurd (omega arith)
first_zeros (suc n) (suc k) h = ap (λ (u : List ℤ). pos 0 ∷ u) (first_zeros n k (omega arith))

pub prints_lent : {a : List ℕ} {r : ℕ} (v : Verdict) (k : Result Sizes Refusal) (n : ℕ) → k ≡ check_of v → n ≡ lent_for k
    → Prints (printed_over v (take n (replicate 128 (pos 0)))) a r → Prints (printed v) a r
unfolding printed
prints_lent v k n e q u = record {
  within = u.within;
  counted = u.counted;
  bytes =
      u.bytes
      ∙ ap (printed_over v)
      (first_zeros n 128 (omega (arith, lent_few k)) ∙ ap (λ (j : ℕ). replicate j (pos 0)) q
      ∙ ap (λ (c : Result Sizes Refusal). replicate (lent_for c) (pos 0)) e);
}

-- ---- a run that completes

completes_taken : (n : ℕ) (x : Result Ran Failure) → Completes (taken n x (fail n 0)) → n ≡ 0
completes_taken zero x h = refl
completes_taken (suc n) x h = absurd h

exact : (a b c : Bool) → ◌≡◌ {A = ℕ} (cond a (cond b (cond c 0 7) 6) 5) 0 → a ≡ true
exact true b c e = refl
exact false b c e = absurd (omega arith)

module _ (text : List ℕ) (R : Result Progress Refusal) (T : List ℕ) (I : List ℤ) (C : List ℕ) (accepted : IfOk R (λ p. Accepts (read text) p T I C))
    (rejected : IfErr R (Refuses (read text))) (l m : List ℤ) (few : length l ≤ 128) (same : length m ≡ length l) where
  held_good : (s : State) → read text ≡ good s → Tabled T s.table → length l ≡ cells s.table → Holds T m s.table
  held_good s e t n = record {
    tabled = t;
    few = omega arith;
    held = λ i (b : i < length s.table).
        omega (arith, laid_at 0 s.table i (accepted_sane text s e).table.laid b, cells_take s.table i b, cells_part s.table (suc i));
    plain = name_bytes text s e;
  }

  pub holds : Completes (run_of (read text) l lent_words []) → Holds T m (names_of (read text))
  unfolding run_of
  holds = go R accepted rejected
    where
      completing : Verdict → Type 0
      completing v = Completes (run_of v l lent_words []) → Holds T m (names_of v)

      good_holds : (s : State) → read text ≡ good s → Tabled T s.table → completing (good s)
      good_holds s e t c =
          let z = completes_taken (run_number s (length l) lent_words []) (answered s (settles s l).answer) c in
          held_good s e t
          (eqb-true (length l) (cells s.table)
          (exact (eqb (length l) (cells s.table)) (leb (needed (cells s.table) s.processors) lent_words) true z))

      refused_holds : (f : Flaw) (k : ℕ) → completing (refused f k)
      refused_holds f k c = absurd c

      go : (r : Result Progress Refusal) → IfOk r (λ p. Accepts (read text) p T I C) → IfErr r (Refuses (read text)) → completing (read text)
      go (Ok p) a b = subst completing (sym a.verdict) (good_holds a.state a.verdict a.represents.table)
      go (Err e) a b = subst completing (sym b.verdict) (refused_holds b.flaw e.line)

  pub prints : (m₀ : List ℤ) → l ≡ cells_loaded (read text) m₀ → (answer : Result Ran Failure) → answer ≡ run_of (read text) l lent_words []
      → m ≡ cells_run (read text) l lent_words [] → (b a : List ℕ) (r : ℕ) → Reports answer T m b a r → Prints (printed_over (read text) m₀) a r
  unfolding printed_over
  prints m₀ el answer ea em b a r u = record {
    within = u.within;
    counted = u.counted;
    bytes =
        u.bytes (names_of (read text)) (λ c. (holds (subst Completes ea c)).tabled)
        ∙ (λ i. report (ea i) (names_of (read text)) (em i))
        ∙ ap (λ (x : List ℤ). report (run_of (read text) x lent_words []) (names_of (read text)) (cells_run (read text) x lent_words [])) el;
  }
