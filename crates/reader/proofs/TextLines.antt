-- The lines of a text, one after the other.
use mathlib.Core.Path.{◌≡◌, refl, sym, ◌∙◌, ap}
use mathlib.Core.Bool.{Bool, true, false, cond, not}
use mathlib.Core.List.{List, [], ◌∷◌}
use Prim.Native.Nat.{ℕ, suc, ◌+◌, ◌-◌, ◌≤◌, ◌<◌}
use native.Mathlib.Omega.{arith}
use lib.Dec.{eqb}
use lib.ListN.{length, take, drop, length-drop}
use lib.Seq.{drop-drop}
use Rattle.syntax.specs.Bytes.{choose, run, after_newline, in_front, lines}
use Rattle.syntax.specs.Known.{State}
use Rattle.syntax.specs.Text.{good, then_judge, judge, judge_line}
use Rattle.syntax.proofs.Accepted.{some_lines}
use Rattle.lexer.specs.Lex.{ended}

-- no newline
abbrev inline : ℕ → Bool
inline b = not (eqb b 10)

-- the lines after a line's end
abbrev after_rest : List ℕ → List (List ℕ)
after_rest [] = []
after_rest (b ∷ r) = after_newline r (lines r)

lines_split : (u : List ℕ) → lines u ≡ take (run inline u) u ∷ after_rest (drop (run inline u) u)
unfolding lines run
lines_split [] = refl
lines_split (b ∷ s) = go (eqb b 10) (lines_split s)
  where
    go : (x : Bool) → lines s ≡ take (run inline s) s ∷ after_rest (drop (run inline s) s)
        → cond x ([] ∷ after_newline s (lines s)) (in_front b (lines s))
        ≡ take (choose (not x) (λ _. suc (run inline s)) (λ _. 0)) (b ∷ s) ∷ after_rest (drop (choose (not x) (λ _. suc (run inline s)) (λ _. 0)) (b ∷ s))
    go true h = refl
    go false h = ap (in_front b) h

run_most : (u : List ℕ) → run inline u ≤ length u
unfolding run
run_most [] = omega arith
run_most (b ∷ s) = go (eqb b 10) (run_most s)
  where
    go : (x : Bool) → run inline s ≤ length s → choose (not x) (λ _. suc (run inline s)) (λ _. 0) ≤ length (b ∷ s)
    go true h = omega arith
    go false h = omega arith

rest_none : (r : List ℕ) → length r ≤ 1 → after_rest r ≡ []
rest_none [] h = refl
rest_none (b ∷ []) h = refl
rest_none (b ∷ c ∷ r) h = absurd (omega arith)

rest_some : (r : List ℕ) → 1 < length r → after_rest r ≡ lines (drop 1 r)
rest_some [] h = absurd (omega arith)
rest_some (b ∷ []) h = absurd (omega arith)
rest_some (b ∷ c ∷ r) h = refl

-- the line that begins at a place
module _ (s : List ℕ) (at e : ℕ) (en : e ≡ ended s at) (b : at ≤ length s) where
  ends : e ≡ at + run inline (drop at s)
  unfolding ended
  ends = en

  pub end_within : e ≤ length s
  end_within = omega (arith, ends, run_most (drop at s), length-drop at s)

  pub end_after : at ≤ e
  end_after = omega (arith, ends)

  abbrev this : List ℕ
  this = take (e - at) (drop at s)

  after_this : drop (run inline (drop at s)) (drop at s) ≡ drop e s
  after_this = drop-drop (run inline (drop at s)) at s ∙ (let z : at + run inline (drop at s) ≡ e = sym ends in ap (λ (n : ℕ). drop n s) z)

  lines_at : lines (drop at s) ≡ this ∷ after_rest (drop e s)
  lines_at =
      let z : run inline (drop at s) ≡ e - at = omega (arith, ends) in
      lines_split (drop at s) ∙ (λ i. take (z i) (drop at s) ∷ after_rest (after_this i))

  -- it is the last
  pub lines_last : length s ≤ e + 1 → lines (drop at s) ≡ this ∷ []
  lines_last h = lines_at ∙ ap (λ (ls : List (List ℕ)). this ∷ ls) (rest_none (drop e s) (omega (arith, length-drop e s)))

  -- or others come after it
  pub lines_more : e + 1 < length s → lines (drop at s) ≡ this ∷ lines (drop (e + 1) s)
  lines_more h =
      lines_at ∙ ap (λ (ls : List (List ℕ)). this ∷ ls) (rest_some (drop e s) (omega (arith, length-drop e s)) ∙ ap lines (drop-drop 1 e s))

  -- the verdict, by this line's
  module _ (k : ℕ) (st : State) where
    pub judge_last : length s ≤ e + 1 → judge k st (lines (drop at s)) ≡ then_judge (judge_line k true st this) good
    unfolding judge
    judge_last h = ap (judge k st) (lines_last h)

    pub judge_more : e + 1 < length s → judge k st (lines (drop at s)) ≡ then_judge (judge_line k false st this) (λ t. judge (suc k) t (lines (drop (e + 1) s)))
    unfolding judge
    judge_more h =
        ap (judge k st) (lines_more h)
        ∙ ap (λ (x : Bool). then_judge (judge_line k x st this) (λ t. judge (suc k) t (lines (drop (e + 1) s)))) (some_lines (drop (e + 1) s))
