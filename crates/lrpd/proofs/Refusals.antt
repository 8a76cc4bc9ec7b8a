-- What is printed for a text that is refused, and for one of more than 128 cells; and that the workspace is large enough for every other.
use mathlib.Core.Path.{◌≡◌, refl, ◌∙◌, ap}
use mathlib.Core.Bool.{Bool, cond}
use mathlib.Core.List.{List, [], ◌++◌}
use Prim.Native.Nat.{ℕ, ◌+◌, ◌*◌, ◌≤◌, ◌<◌, min}
use native.Mathlib.Omega.{arith}
use native.Mathlib.Nat.{mul-le-mul}
use borrow.Author.Tests.{ne_eqb}
use lib.Dec.{leb}
use lib.ListN.{length, replicate, length-replicate}
use lib.IntN.{ℤ, pos}
use Rattle.syntax.specs.Bytes.{bytes}
use Rattle.syntax.specs.Known.{State, cells}
use Rattle.syntax.specs.declared.Flaw.{Flaw}
use Rattle.syntax.specs.Flaws.{flaw_number}
use Rattle.syntax.specs.Text.{refused, good, loaded}
use Rattle.answers.specs.Answers.{fail, needed, taken, answered, settles, check_of, cells_loaded, run_of, cells_run}
use Rattle.answers.specs.declared.Failure.{Failure}
use Rattle.answers.specs.declared.Ran.{Ran}
use Rattle.std.specs.Prelude.{Result}
use Rattle.printing.specs.Printed.{digits, signed, newline, comment, report}
use Rattle.lrpd.specs.Output.{lent_words, printed_over, printed}

-- "A refusal prints only `! refused` and its three numbers"
pub refused_text : (f : Flaw) (k : ℕ) → printed (refused f k) ≡ comment (fail (flaw_number f) k)
unfolding printed printed_over run_of report
refused_text f k = refl

module _ (s : State) where
  -- none but m cells are lent
  other : (m : List ℤ) → (length m ≡ cells s.table → ⊥) → printed_over (good s) m ≡ bytes "! refused 5 0 0" ++ newline
  unfolding printed_over cells_loaded run_of report comment digits signed
  other m n =
      let e = ne_eqb (length m) (cells s.table) n in
      let same : cells_loaded (good s) m ≡ m = ap (λ (b : Bool). taken (cond b 0 5) (loaded s.table) m) e in
      let words = leb (needed (cells s.table) s.processors) lent_words in
      let answer : run_of (good s) m lent_words [] ≡ fail 5 0 = ap
      (λ (b : Bool). let j = cond b (cond words 0 6) 5 in taken j (answered s (settles s m).answer) (fail j 0)) e in
      ap (λ (l : List ℤ). report (run_of (good s) l lent_words []) s.table (cells_run (good s) l lent_words [])) same
      ∙ ap (λ (r : Result Ran Failure). report r s.table (cells_run (good s) m lent_words [])) answer

  -- "lends 128 cells"; "5, 0, 0: cells lent not exactly N"
  pub too_many : 128 < cells s.table → printed (good s) ≡ bytes "! refused 5 0 0" ++ newline
  unfolding printed check_of
  too_many h = other (replicate (min (cells s.table) 128) (pos 0)) (λ e. absurd (omega (arith, e, length-replicate (min (cells s.table) 128) (pos 0))))

-- 6 is never printed
pub enough : (n p : ℕ) → n ≤ 128 → p ≤ 8 → needed n p ≤ lent_words
enough n p h k = let q : 4 + 8 * p ≤ 68 = omega arith in let m : n * (4 + 8 * p) ≤ 128 * 68 = mul-le-mul h q in omega arith
