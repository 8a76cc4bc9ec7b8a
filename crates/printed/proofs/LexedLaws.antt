-- What the lexer makes of a line: every token is proper (`RoundTrip`), and its bytes are bytes of the line.
use mathlib.Core.Path.{◌≡◌, refl, sym, ◌∙◌, ap, ap₂, subst}
use mathlib.Core.Bool.{Bool, true, false, cond, ◌&&◌, ◌||◌, not}
use mathlib.Core.List.{List, [], ◌∷◌}
use Prim.Native.Nat.{ℕ, zero, suc, ◌-◌}
use native.Mathlib.Omega.{arith}
use lib.Dec.{eqb, leb}
use lib.ListN.{length, take}
use borrow.Author.Tests.{eqb-true}
use Rattle.syntax.specs.Bytes.{choose, all, any, same, bytes, reserved, letter, digit, in_word, run, starts, name, other_word, digits, sign, bytes_of, word_of, sign_size, token_size, token_of, tokens_after}
use Rattle.syntax.specs.Sane.{Each}
use Rattle.syntax.proofs.Spelling.{both_true}
use Rattle.syntax.proofs.TestLaws.{both_hold, choose_each}
use Rattle.syntax.proofs.Places.{token_bytes}
use Rattle.printed.proofs.RoundTrip.{Ends, end, blank, Wordly, Signly, Proper}

-- ---- words and digits

run_all : (p : ℕ → Bool) (s : List ℕ) → all p (take (run p s) s) ≡ true
unfolding run
run_all p [] = refl
run_all p (b ∷ s) =
    choose_each (λ (n : ℕ). all p (take n (b ∷ s)) ≡ true) (p b) _ _ (λ h. both_hold h (run_all p s)) (λ h. refl)

word_proper : (w : List ℕ) → Wordly w → Proper (word_of w)
word_proper w h = go (leb (length w) 31 && not (any (same w) reserved)) refl
  where
    go : (c : Bool) → leb (length w) 31 && not (any (same w) reserved) ≡ c → Proper (cond c (name w) (other_word w))
    go true e = (h, ap (λ (c : Bool). cond c (name w) (other_word w)) e)
    go false e = (h, ap (λ (c : Bool). cond c (name w) (other_word w)) e)

-- ---- signs

starts_take : (x s : List ℕ) → starts x s ≡ true → take (length x) s ≡ x
starts_take [] s h = refl
starts_take (x ∷ xs) [] h = let z : ◌≡◌ {A = ℕ} 0 1 = cc in absurd (omega arith)
starts_take (x ∷ xs) (b ∷ s) h =
    let (p, q) = both_true (eqb x b) (starts xs s) h in
    ap₂ (λ (y : ℕ) (ys : List ℕ). y ∷ ys) (sym (eqb-true x b p)) (starts_take xs s q)

and_false : (c : Bool) → c && false ≡ false
and_false true = refl
and_false false = refl

-- one sign before a blank or the line's end is no longer sign
lone : (b : ℕ) (e : List ℕ) → Ends e → sign_size (b ∷ e) ≡ 1
lone b [] end = simp and_false
lone b _ (blank s) = simp and_false

sign_proper : (b : ℕ) (s : List ℕ) → letter b ≡ false → digit b ≡ false → eqb b 32 ≡ false → Signly (take (sign_size (b ∷ s)) (b ∷ s))
sign_proper b s l d n = go (starts (bytes "!$omp") (b ∷ s)) refl
  where
    put : (x : List ℕ) → starts x (b ∷ s) ≡ true → Signly x → Signly (take (length x) (b ∷ s))
    put x h k = subst Signly (sym (starts_take x (b ∷ s) h)) k

    two : (c1 c2 c3 c4 : Bool) → starts (bytes "==") (b ∷ s) ≡ c1 → starts (bytes "/=") (b ∷ s) ≡ c2 → starts (bytes "<=") (b ∷ s) ≡ c3
        → starts (bytes ">=") (b ∷ s) ≡ c4
        → Signly (take (cond (c1 || (c2 || (c3 || c4))) 2 1) (b ∷ s))
    two true c2 c3 c4 h1 h2 h3 h4 = put (bytes "==") h1 (record { no_letter = refl; no_digit = refl; no_blank = refl; sized = λ e f. refl })
    two false true c3 c4 h1 h2 h3 h4 = put (bytes "/=") h2 (record { no_letter = refl; no_digit = refl; no_blank = refl; sized = λ e f. refl })
    two false false true c4 h1 h2 h3 h4 = put (bytes "<=") h3 (record { no_letter = refl; no_digit = refl; no_blank = refl; sized = λ e f. refl })
    two false false false true h1 h2 h3 h4 = put (bytes ">=") h4 (record { no_letter = refl; no_digit = refl; no_blank = refl; sized = λ e f. refl })
    two false false false false h1 h2 h3 h4 = record { no_letter = l; no_digit = d; no_blank = n; sized = λ e f. lone b e f }

    longer : Bool
    longer = starts (bytes "==") (b ∷ s) || (starts (bytes "/=") (b ∷ s) || (starts (bytes "<=") (b ∷ s) || starts (bytes ">=") (b ∷ s)))

    go : (c : Bool) → starts (bytes "!$omp") (b ∷ s) ≡ c → Signly (take (cond c 5 (cond longer 2 1)) (b ∷ s))
    go true h = put (bytes "!$omp") h (record { no_letter = refl; no_digit = refl; no_blank = refl; sized = λ e f. refl })
    go false h = two _ _ _ _ refl refl refl refl

-- ---- a line

made_proper : (b : ℕ) (s : List ℕ) → eqb b 32 ≡ false → Proper (token_of b (take (token_size b s) (b ∷ s)))
unfolding token_size
made_proper b s n = go (letter b) (digit b) refl refl
  where
    go : (x y : Bool) → letter b ≡ x → digit b ≡ y
        → let w = take (choose x (λ _. suc (run in_word s)) (λ _. choose y (λ _. suc (run digit s)) (λ _. sign_size (b ∷ s)))) (b ∷ s) in
        Proper (cond x (word_of w) (cond y (digits w) (sign w)))
    go true y p q = word_proper (b ∷ take (run in_word s) s) (p, run_all in_word s)
    go false true p q = (q, run_all digit s)
    go false false p q = sign_proper b s p q n

pub tokens_proper : (k : ℕ) (s : List ℕ) → Each Proper (tokens_after k s)
unfolding tokens_after
tokens_proper k [] = tt
tokens_proper zero (b ∷ s) =
    choose_each (Each Proper) (eqb b 32) _ _ (λ h. tokens_proper zero s) (λ h. (made_proper b s h, tokens_proper (token_size b s - 1) s))
tokens_proper (suc k) (b ∷ s) = tokens_proper k s

all_take : (p : ℕ → Bool) (n : ℕ) (s : List ℕ) → all p s ≡ true → all p (take n s) ≡ true
all_take p zero s h = refl
all_take p (suc n) [] h = refl
all_take p (suc n) (b ∷ s) h = let (x, y) = both_true (p b) (all p s) h in both_hold x (all_take p n s y)

module _ (p : ℕ → Bool) where
  pub tokens_bytes : (k : ℕ) (s : List ℕ) → all p s ≡ true → Each (λ t. all p (bytes_of t) ≡ true) (tokens_after k s)
  unfolding tokens_after
  tokens_bytes k [] h = tt
  tokens_bytes zero (b ∷ s) h =
      let k = (both_true (p b) (all p s) h).1 in
      let n = token_size b s in
      choose_each (Each (λ t. all p (bytes_of t) ≡ true)) (eqb b 32) _ _
      (λ _. tokens_bytes zero s k)
      (λ _. (ap (all p) (token_bytes b (take n (b ∷ s))) ∙ all_take p n (b ∷ s) h, tokens_bytes (n - 1) s k))
  tokens_bytes (suc k) (b ∷ s) h = tokens_bytes k s (both_true (p b) (all p s) h).1
