-- What the tokens of a text leave aside, on its bytes: case, a blank between tokens, a skipped line, the last newline. So texts that differ in
-- these alone differ only in what the printed form removes.
use mathlib.Core.Path.{◌≡◌, refl, sym, ◌∙◌, ap, ap₂, subst}
use mathlib.Core.Bool.{Bool, true, false, cond, ◌&&◌, ◌||◌, not}
use mathlib.Core.List.{List, [], ◌∷◌, ◌++◌, map, map-append}
use Prim.Native.Nat.{ℕ, zero, suc, ◌-◌, ◌≤◌}
use native.Mathlib.Omega.{arith}
use lib.Dec.{eqb}
use lib.ListN.{length, take}
use lib.Seq.{take-append-le}
use Rattle.syntax.specs.Bytes.{choose, all, bytes, lower, letter, digit, in_word, run, starts, in_front, lines, Token, token_of, sign_size, token_size, tokens_after, tokens, skipped_line}
use Rattle.syntax.specs.Follows.{spoken}
use Rattle.syntax.proofs.Spelling.{both_true}
use Rattle.syntax.proofs.TestLaws.{choose_each, starts_length}
use Rattle.printed.specs.Differ.{speech, Differ, nowhere, DifferOnly}

same_speech : (s t : List ℕ) → speech s ≡ speech t → DifferOnly s t
same_speech s t h = subst (Differ (speech s)) h nowhere

-- ---- case

pub case_aside : (s t : List ℕ) → map lower s ≡ map lower t → DifferOnly s t
case_aside s t h = same_speech s t (ap (λ (x : List ℕ). map (λ q. q.1) (spoken 1 (lines x))) h)

-- ---- skipped lines

told_from : ℕ → List (List ℕ) → List (List Token)
told_from k ls = map (λ q. q.1) (spoken k ls)

-- the tokens of a line, if it is not skipped, and those of the others
told_line : (k : ℕ) (l : List ℕ) (ls : List (List ℕ))
    → told_from k (l ∷ ls) ≡ cond (skipped_line l) (told_from (suc k) ls) (tokens l ∷ told_from (suc k) ls)
unfolding told_from spoken
told_line k l ls = go (skipped_line l)
  where
    go : (c : Bool)
        → map (λ q. q.1) (cond c (spoken (suc k) ls) ((k, tokens l) ∷ spoken (suc k) ls))
        ≡ cond c (told_from (suc k) ls) (tokens l ∷ told_from (suc k) ls)
    go true = refl
    go false = refl

told_anywhere : (j k : ℕ) (ls : List (List ℕ)) → told_from j ls ≡ told_from k ls
unfolding told_from spoken
told_anywhere j k [] = refl
told_anywhere j k (l ∷ ls) =
    told_line j l ls ∙ ap (λ (x : List (List Token)). cond (skipped_line l) x (tokens l ∷ x)) (told_anywhere (suc j) (suc k) ls)
    ∙ sym (told_line k l ls)

told_skipped : (k : ℕ) (a : List (List ℕ)) (l : List ℕ) (b : List (List ℕ)) → skipped_line l ≡ true
    → told_from k (a ++ (l ∷ b)) ≡ told_from k (a ++ b)
told_skipped k [] l b h =
    told_line k l b ∙ ap (λ (c : Bool). cond c (told_from (suc k) b) (tokens l ∷ told_from (suc k) b)) h ∙ told_anywhere (suc k) k b
told_skipped k (x ∷ a) l b h =
    told_line k x (a ++ (l ∷ b)) ∙ ap (λ (y : List (List Token)). cond (skipped_line x) y (tokens x ∷ y)) (told_skipped (suc k) a l b h)
    ∙ sym (told_line k x (a ++ b))

-- a comment or an empty line
pub skipped_aside : (s t : List ℕ) (a : List (List ℕ)) (l : List ℕ) (b : List (List ℕ)) → lines (map lower s) ≡ a ++ (l ∷ b)
    → lines (map lower t) ≡ a ++ b → skipped_line l ≡ true → DifferOnly s t
unfolding told_from
skipped_aside s t a l b h k e = same_speech s t (ap (told_from 1) h ∙ told_skipped 1 a l b e ∙ ap (told_from 1) (sym k))

-- ---- the last newline

-- does not end in a newline
abbrev pub unended : List ℕ → Bool
unended [] = false
unended (b ∷ []) = not (eqb b 10)
unended (b ∷ c ∷ s) = unended (c ∷ s)

lines_unended : (s : List ℕ) → unended s ≡ true → lines (s ++ (10 ∷ [])) ≡ lines s
unfolding lines
lines_unended [] h = let z : ◌≡◌ {A = ℕ} 0 1 = cc in absurd (omega arith)
lines_unended (b ∷ []) h = go (eqb b 10) h
  where
    go : (c : Bool) → not c ≡ true → cond c ([] ∷ ([] ∷ [])) (in_front b ([] ∷ [])) ≡ cond c ([] ∷ []) (in_front b ([] ∷ []))
    go true h = let z : ◌≡◌ {A = ℕ} 0 1 = cc in absurd (omega arith)
    go false h = refl
lines_unended (b ∷ c ∷ s) h =
    ap (λ (ls : List (List ℕ)). cond (eqb b 10) ([] ∷ ls) (in_front b ls)) (lines_unended (c ∷ s) h)

pub newline_aside : (s : List ℕ) → unended (map lower s) ≡ true → DifferOnly (s ++ (10 ∷ [])) s
unfolding told_from
newline_aside s h =
    same_speech (s ++ (10 ∷ [])) s
    (ap (λ (x : List ℕ). told_from 1 (lines x)) (map-append lower s (10 ∷ [])) ∙ ap (told_from 1) (lines_unended (map lower s) h))

-- ---- blanks

run_blank : (p : ℕ → Bool) (u v : List ℕ) → p 32 ≡ false → run p (u ++ (32 ∷ v)) ≡ run p u
unfolding run
run_blank p [] v h = ap (λ (c : Bool). choose c (λ _. suc (run p v)) (λ _. 0)) h
run_blank p (b ∷ u) v h = ap (λ (n : ℕ). choose (p b) (λ _. suc n) (λ _. 0)) (run_blank p u v h)

starts_blank : (x u v : List ℕ) → all (λ b. not (eqb b 32)) x ≡ true → starts x (u ++ (32 ∷ v)) ≡ starts x u
starts_blank [] u v h = refl
starts_blank (b ∷ x) [] v h = go (eqb b 32) (both_true (not (eqb b 32)) _ h).0
  where
    go : (c : Bool) → not c ≡ true → c && starts x v ≡ false
    go true h = let z : ◌≡◌ {A = ℕ} 0 1 = cc in absurd (omega arith)
    go false h = refl
starts_blank (b ∷ x) (c ∷ u) v h = ap (λ (y : Bool). eqb b c && y) (starts_blank x u v (both_true (not (eqb b 32)) _ h).1)

sign_blank : (u v : List ℕ) → sign_size (u ++ (32 ∷ v)) ≡ sign_size u
sign_blank u v =
    rw (starts_blank (bytes "!$omp") u v refl, starts_blank (bytes "==") u v refl, starts_blank (bytes "/=") u v refl)
    (rw (starts_blank (bytes "<=") u v refl, starts_blank (bytes ">=") u v refl))

size_blank : (b : ℕ) (u v : List ℕ) → token_size b (u ++ (32 ∷ v)) ≡ token_size b u
unfolding token_size
size_blank b u v = rw (run_blank in_word u v refl, run_blank digit u v refl, sign_blank (b ∷ u) v)

run_less : (p : ℕ → Bool) (u : List ℕ) → run p u ≤ length u
unfolding run
run_less p [] = omega arith
run_less p (b ∷ u) = choose_each (λ (n : ℕ). n ≤ suc (length u)) (p b) _ _ (λ h. omega (arith, run_less p u)) (λ h. omega arith)

sign_less : (b : ℕ) (u : List ℕ) → sign_size (b ∷ u) ≤ suc (length u)
sign_less b u = go _ _ _ _ _ refl refl refl refl refl
  where
    l : List ℕ
    l = b ∷ u

    go : (v w x y z : Bool) → starts (bytes "!$omp") l ≡ v → starts (bytes "==") l ≡ w → starts (bytes "/=") l ≡ x → starts (bytes "<=") l ≡ y
        → starts (bytes ">=") l ≡ z
        → cond v 5 (cond (w || (x || (y || z))) 2 1) ≤ suc (length u)
    go true w x y z a c d e f = starts_length (bytes "!$omp") l a
    go false true x y z a c d e f = starts_length (bytes "==") l c
    go false false true y z a c d e f = starts_length (bytes "/=") l d
    go false false false true z a c d e f = starts_length (bytes "<=") l e
    go false false false false true a c d e f = starts_length (bytes ">=") l f
    go false false false false false a c d e f = omega arith

size_less : (b : ℕ) (u : List ℕ) → token_size b u ≤ suc (length u)
unfolding token_size
size_less b u =
    choose_each (λ (n : ℕ). n ≤ suc (length u)) (letter b) _ _ (λ h. omega (arith, run_less in_word u)) (λ h.
    choose_each (λ (n : ℕ). n ≤ suc (length u)) (digit b) _ _ (λ k. omega (arith, run_less digit u)) (λ k. sign_less b u))

after_blank : (k : ℕ) (u v : List ℕ) → k ≤ length u → tokens_after k (u ++ (32 ∷ v)) ≡ tokens_after k u ++ tokens v
unfolding tokens_after
after_blank zero [] v h = refl
after_blank (suc k) [] v h = absurd (omega arith)
after_blank zero (b ∷ u) v h =
    rw (size_blank b u v, take-append-le (token_size b u) (b ∷ u) (32 ∷ v) (size_less b u))
    (go (eqb b 32) (after_blank zero u v (omega arith)) (after_blank (token_size b u - 1) u v (omega (arith, size_less b u))))
  where
    t : Token
    t = token_of b (take (token_size b u) (b ∷ u))

    n : ℕ
    n = token_size b u - 1

    go : (c : Bool) → tokens_after zero (u ++ (32 ∷ v)) ≡ tokens_after zero u ++ tokens v
        → tokens_after n (u ++ (32 ∷ v)) ≡ tokens_after n u ++ tokens v
        → choose c (λ _. tokens_after zero (u ++ (32 ∷ v))) (λ _. t ∷ tokens_after n (u ++ (32 ∷ v)))
        ≡ choose c (λ _. tokens_after zero u) (λ _. t ∷ tokens_after n u) ++ tokens v
    go true i j = i
    go false i j = ap (λ (ts : List Token). t ∷ ts) j
after_blank (suc k) (b ∷ u) v h = after_blank k u v (omega arith)

-- a blank parts tokens, and is no token
pub tokens_blank : (u v : List ℕ) → tokens (u ++ (32 ∷ v)) ≡ tokens u ++ tokens v
tokens_blank u v = after_blank 0 u v (omega arith)

told_same : (k : ℕ) (a : List (List ℕ)) (l m : List ℕ) (b : List (List ℕ)) → skipped_line l ≡ skipped_line m → tokens l ≡ tokens m
    → told_from k (a ++ (l ∷ b)) ≡ told_from k (a ++ (m ∷ b))
told_same k [] l m b h e =
    told_line k l b ∙ ap₂ (λ (c : Bool) (ts : List Token). cond c (told_from (suc k) b) (ts ∷ told_from (suc k) b)) h e ∙ sym (told_line k m b)
told_same k (x ∷ a) l m b h e =
    told_line k x (a ++ (l ∷ b)) ∙ ap (λ (y : List (List Token)). cond (skipped_line x) y (tokens x ∷ y)) (told_same (suc k) a l m b h e)
    ∙ sym (told_line k x (a ++ (m ∷ b)))

-- a blank where two tokens meet, on a line that stays one or stays skipped
pub blank_aside : (s t : List ℕ) (a : List (List ℕ)) (u v : List ℕ) (b : List (List ℕ)) → lines (map lower s) ≡ a ++ ((u ++ (32 ∷ v)) ∷ b)
    → lines (map lower t) ≡ a ++ ((u ++ v) ∷ b)
    → tokens (u ++ v) ≡ tokens u ++ tokens v → skipped_line (u ++ (32 ∷ v)) ≡ skipped_line (u ++ v) → DifferOnly s t
unfolding told_from
blank_aside s t a u v b h k e n =
    same_speech s t (ap (told_from 1) h ∙ told_same 1 a (u ++ (32 ∷ v)) (u ++ v) b n (tokens_blank u v ∙ sym e) ∙ ap (told_from 1) (sym k))
