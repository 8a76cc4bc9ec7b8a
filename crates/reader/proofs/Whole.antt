-- A whole text in lower case.
use mathlib.Core.Path.{◌≡◌, refl, sym, ◌∙◌, ap, subst}
use mathlib.Core.Bool.{Bool}
use mathlib.Core.List.{List, map}
use Prim.Native.Nat.{ℕ, ◌+◌, ◌-◌, ◌≤◌, ◌<◌}
use native.Mathlib.Omega.{arith}
use borrow.Author.Tests.{lt-ltb, le-ltb}
use lib.ListN.{length, take, drop, length-map}
use lib.Seq.{sets, sets-eq, take_at}
use lib.IntN.{ℤ}
use Rattle.std.specs.Prelude.{Result, Err}
use Rattle.syntax.specs.declared.Flaw.TheVariants.{TooLong}
use Rattle.syntax.specs.Bytes.{choose, lower, lines}
use Rattle.syntax.specs.Known.{nothing}
use Rattle.syntax.specs.Text.{Verdict, refused, judge, read}
use Rattle.lines.specs.declared.Progress.{Progress}
use Rattle.reader.specs.declared.BadLine.{BadLine}
use Rattle.reader.specs.Judged.{Reads}

-- its bytes at the front of what was lent
pub lowered_part : (text low : List ℕ) (n : ℕ) → n ≡ length text → n ≤ length low → take (n - 0) (drop 0 (sets low 0 (map lower text))) ≡ map lower text
lowered_part text low n e b =
    let l = length-map text lower in
    let z : n - 0 ≡ n = omega arith in
    ap (λ (m : ℕ). take m (sets low 0 (map lower text))) z ∙ ap (take n) (sets-eq (map lower text) low 0 (omega (arith, l, e)))
    ∙ take_at (map lower text) (drop (0 + length (map lower text)) low) n (l ∙ sym e)

module _ (text : List ℕ) (r : Result Progress BadLine) (T : List ℕ) (I : List ℤ) (C : List ℕ) where
  -- the verdict by whether it is too long
  abbrev by_length : Bool → Verdict
  by_length long = choose long (λ _. refused TooLong 0) (λ _. judge 1 nothing (lines (map lower text)))

  pub over_long : 2048 < length text → r ≡ Err (record { flaw = TooLong; line = 0 }) → Reads (read text) r T I C
  unfolding read Reads
  over_long h a = subst (λ (x : Result Progress BadLine). Reads (read text) x T I C) (sym a)
      (subst (λ (v : Verdict). Reads v (Err (record { flaw = TooLong; line = 0 })) T I C) (sym (ap by_length (lt-ltb 2048 (length text) h))) refl)

  pub in_lower : (2048 < length text → ⊥) → (s : List ℕ) → s ≡ map lower text → Reads (judge 1 nothing (lines s)) r T I C → Reads (read text) r T I C
  unfolding read
  in_lower h s e q =
      subst (λ (v : Verdict). Reads v r T I C)
      (ap (λ (u : List ℕ). judge 1 nothing (lines u)) e ∙ sym (ap by_length (le-ltb 2048 (length text) (omega (arith, h))))) q

pub lowered_at : (text low l : List ℕ) (n : ℕ) → l ≡ sets low 0 (map lower text) → n ≡ length text → n ≤ length low → take (n - 0) (drop 0 l) ≡ map lower text
lowered_at text low l n e en b = ap (λ (u : List ℕ). take (n - 0) (drop 0 u)) e ∙ lowered_part text low n en b
