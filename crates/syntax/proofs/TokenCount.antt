-- A text has no more tokens than bytes; and any size of tokens that a line's bytes bound, a text's bytes bound.
use mathlib.Core.Path.{◌≡◌, refl, ◌∙◌, ap}
use mathlib.Core.Bool.{Bool, true, false, cond}
use mathlib.Core.List.{List, [], ◌∷◌, map}
use Prim.Native.Nat.{ℕ, zero, suc, ◌+◌, ◌-◌, ◌≤◌}
use native.Mathlib.Omega.{arith}
use lib.Dec.{eqb}
use lib.ListN.{length, take, length-map}
use Rattle.syntax.specs.Bytes.{choose, lower, after_newline, in_front, lines, Token, token_size, token_of, tokens_after, tokens, skipped_line}
use Rattle.syntax.specs.Grammar.{show_line}
use Rattle.syntax.specs.Known.{total}
use Rattle.syntax.specs.Follows.{Program, spoken, shown, Follows}
use Rattle.syntax.proofs.TestLaws.{cond_each}

pub tokens_length : (k : ℕ) (s : List ℕ) → length (tokens_after k s) ≤ length s
unfolding tokens_after
tokens_length k [] = omega arith
tokens_length zero (b ∷ s) = go (eqb b 32) (tokens_length zero s) (tokens_length (token_size b s - 1) s)
  where
    go : (c : Bool) → length (tokens_after zero s) ≤ length s → length (tokens_after (token_size b s - 1) s) ≤ length s
        → length (choose c (λ _. tokens_after zero s) (λ _. token_of b (take (token_size b s) (b ∷ s)) ∷ tokens_after (token_size b s - 1) s))
        ≤ suc (length s)
    go true h k = omega arith
    go false h k = omega arith
tokens_length (suc k) (b ∷ s) = omega (arith, tokens_length k s)

lines_length : (s : List ℕ) → total length (lines s) ≤ length s
unfolding lines
lines_length [] = omega arith
lines_length (b ∷ s) = go (eqb b 10) s (lines s) (lines_length s)
  where
    go : (c : Bool) (s : List ℕ) (ls : List (List ℕ)) → total length ls ≤ length s
        → total length (cond c ([] ∷ after_newline s ls) (in_front b ls)) ≤ suc (length s)
    go true [] ls h = omega arith
    go true (d ∷ s) ls h = omega arith
    go false s [] h = omega arith
    go false s (l ∷ ls) h = omega arith

-- a size of a line's tokens that its bytes bound
module _ (f : List Token → ℕ) (b : (s : List ℕ) → f (tokens s) ≤ length s) where
  spoken_size : (k : ℕ) (ls : List (List ℕ)) → total (λ q. f q.1) (spoken k ls) ≤ total length ls
  unfolding spoken
  spoken_size k [] = omega arith
  spoken_size k (l ∷ ls) =
      let i = spoken_size (suc k) ls in
      cond_each (λ (qs : List (ℕ × List Token)). total (λ q. f q.1) qs ≤ length l + total length ls) (skipped_line l)
      (omega arith) (omega (arith, b l))

  shown_size : (p : Program) → total (λ q. f q.1) (map shown p) ≡ total (λ q. f (show_line q.1)) p
  shown_size [] = refl
  shown_size ((k, l) ∷ p) = ap (◌+◌ (f (show_line l))) (shown_size p)

  pub follows_size : (text : List ℕ) (p : Program) → Follows text p → total (λ q. f (show_line q.1)) p ≤ length text
  follows_size text p h =
      let ls = lines (map lower text) in
      let e = ap (total (λ q. f q.1)) h.spelled ∙ shown_size p in
      omega (arith, e, spoken_size 1 ls, lines_length (map lower text), length-map text lower)

pub follows_length : (text : List ℕ) (p : Program) → Follows text p → total (λ q. length (show_line q.1)) p ≤ length text
follows_length = follows_size length (tokens_length 0)
