-- A line that is good stays good, and makes the same known, with its copies written out and its ending in two words.
use mathlib.Core.Path.{◌≡◌, refl, ◌∙◌, ap}
use mathlib.Core.Bool.{Bool, true, not}
use mathlib.Core.List.{List, [], ◌∷◌, ◌++◌, map}
use mathlib.Core.Option.{none, some}
use Prim.Native.Nat.{ℕ, zero, suc, ◌+◌}
use native.Mathlib.Omega.{arith}
use lib.Dec.{ltb, eqb}
use lib.IntN.{ℤ}
use lib.ListN.{replicate}
use borrow.Author.Tests.{ltb-true}
use Rattle.rules.specs.declared.Grouping.TheVariants.{Iterations}
use Rattle.syntax.specs.Bytes.{all}
use Rattle.syntax.specs.Grammar.{number, Lead, Item, item, assign, when, otherwise, end_if, Line, declare, give, direct, loop, inside, end_do, close}
use Rattle.syntax.specs.Known.{State, total, signed, copies, values, known, find, give_to, heading, after}
use Rattle.syntax.specs.Conditions.{Mention, digits, concat, in_item, in_line, rightly, is_given, names, small, limits, may_follow, stands}
use Rattle.syntax.proofs.Spelling.{both_true}
use Rattle.syntax.proofs.TestLaws.{both_hold, all_parts}
use Rattle.printed.specs.Form.{once, written_out, data_line, plain}
use Rattle.printed.proofs.PlainLaws.{Filled, filled, filled_out}

-- ---- items

values_copies : (n : ℕ) (l : Lead) (d : List ℕ) (js : List Item)
    → values (replicate n (item none l d) ++ js) ≡ replicate n (signed l (number d)) ++ values js
unfolding values
values_copies zero l d js = refl
values_copies (suc n) l d js = ap (λ (vs : List ℤ). signed l (number d) ∷ vs) (values_copies n l d js)

values_out : (is : List Item) → values (written_out is) ≡ values is
unfolding values written_out
values_out [] = refl
values_out (item r l d ∷ is) =
    values_copies (copies (item r l d)) l d (written_out is)
    ∙ ap (λ (vs : List ℤ). replicate (copies (item r l d)) (signed l (number d)) ++ vs) (values_out is)

total_copies : (n : ℕ) (i : Item) (js : List Item) → total copies (replicate n (once i) ++ js) ≡ n + total copies js
total_copies zero i js = omega arith
total_copies (suc n) (item r l d) js = omega (arith, total_copies n (item r l d) js)

pub total_out : (is : List Item) → total copies (written_out is) ≡ total copies is
unfolding written_out
total_out [] = refl
total_out (i ∷ is) = total_copies (copies i) i (written_out is) ∙ ap (λ (n : ℕ). copies i + n) (total_out is)

-- every item of what is written out stands once
once_each : (n : ℕ) (i : Item) (js : List Item) → all (λ j. ltb 0 (copies j)) js ≡ true
    → all (λ j. ltb 0 (copies j)) (replicate n (once i) ++ js) ≡ true
once_each zero i js h = h
once_each (suc n) (item r l d) js h = once_each n (item r l d) js h

some_out : (is : List Item) → all (λ j. ltb 0 (copies j)) (written_out is) ≡ true
unfolding written_out
some_out [] = refl
some_out (i ∷ is) = once_each (copies i) i (written_out is) (some_out is)

-- a test of what the items mention
module _ (p : Mention → Bool) where
  mention_copies : (n : ℕ) (i : Item) (js : List Item) → all p (in_item i) ≡ true → all p (concat in_item js) ≡ true
      → all p (concat in_item (replicate n (once i) ++ js)) ≡ true
  mention_copies zero i js h k = k
  mention_copies (suc n) (item none l d) js h k = both_hold (both_true (p (digits d)) true h).0 (mention_copies n (item none l d) js h k)
  mention_copies (suc n) (item (some r) l d) js h k =
      let (x, y) = both_true (p (digits r)) (all p (digits d ∷ [])) h in
      both_hold (both_true (p (digits d)) true y).0 (mention_copies n (item (some r) l d) js h k)

  mention_out : (is : List Item) → all p (concat in_item is) ≡ true → all p (concat in_item (written_out is)) ≡ true
  unfolding written_out
  mention_out [] h = refl
  mention_out (i ∷ is) h =
      let (x, y) = all_parts p (in_item i) (concat in_item is) h in
      mention_copies (copies i) i (written_out is) x (mention_out is y)

-- ---- lines

-- line k is good, and this is known after it
pub record Good (k : ℕ) (s : State) (l : Line) (u : State) : Type 0 where
  pub stood : stands s l ≡ true
  pub named : names s l ≡ true
  pub bounded : limits s l ≡ true
  pub known : after k l s ≡ u

good_data : (k : ℕ) (s : State) (x : List ℕ) (i : Item) (is : List Item) {vs : List ℤ} → Filled is → may_follow s.stage 2 ≡ true
    → all (λ j. ltb 0 (copies j)) is ≡ true
    → all (rightly s.table s.variable) (concat in_item is) ≡ true → known x s.table ≡ true → not (is_given (find x s.table).given) ≡ true
    → eqb (total copies is) (find x s.table).size ≡ true → all small (concat in_item is) ≡ true → values is ≡ vs
    → Good k s (data_line x i is) (heading 2 (map (give_to x vs) s.table) 0 Iterations)
unfolding stands names limits in_line after
good_data k s x i is (filled j js) a b c d e f g h = record {
  stood = both_hold a b;
  named = both_hold c (both_hold d (both_hold e f));
  bounded = both_hold g refl;
  known = ap (λ vs. heading 2 (map (give_to x vs) s.table) 0 Iterations) h;
}

plain_data : (k : ℕ) (s : State) (x : List ℕ) (i : Item) (is : List Item) → stands s (give x i is) ≡ true → names s (give x i is) ≡ true
    → limits s (give x i is) ≡ true
    → Good k s (plain (give x i is)) (after k (give x i is) s)
unfolding plain stands names limits in_line after
plain_data k s x i is a b c =
    let all_is = i ∷ is in
    let (f, g) = both_true (may_follow s.stage 2) (all (λ j. ltb 0 (copies j)) all_is) a in
    let (m, n) = both_true (all (rightly s.table s.variable) (concat in_item all_is)) _ b in
    let (o, q) = both_true (known x s.table) _ n in
    let (u, v) = both_true (not (is_given (find x s.table).given)) _ q in
    let (w, z) = both_true (all small (concat in_item all_is)) true c in
    good_data k s x (once i) (written_out all_is)
    (filled_out i is (ltb-true 0 (copies i) (both_true (ltb 0 (copies i)) _ g).0)) f (some_out all_is)
    (mention_out (rightly s.table s.variable) all_is m) o u
    (ap (λ (n : ℕ). eqb n (find x s.table).size) (total_out all_is) ∙ v) (mention_out small all_is w) (values_out all_is)

pub plain_good : (k : ℕ) (s : State) (l : Line) → stands s l ≡ true → names s l ≡ true → limits s l ≡ true → Good k s (plain l) (after k l s)
unfolding plain stands names limits in_line after
plain_good k s (declare d ds) a b c = record { stood = a; named = b; bounded = c; known = refl }
plain_good k s (give x i is) a b c = plain_data k s x i is a b c
plain_good k s (direct cs) a b c = record { stood = a; named = b; bounded = c; known = refl }
plain_good k s (loop v l m j n) a b c = record { stood = a; named = b; bounded = c; known = refl }
plain_good k s (inside (assign r e)) a b c = record { stood = a; named = b; bounded = c; known = refl }
plain_good k s (inside (when m r n)) a b c = record { stood = a; named = b; bounded = c; known = refl }
plain_good k s (inside otherwise) a b c = record { stood = a; named = b; bounded = c; known = refl }
plain_good k s (inside (end_if j)) a b c = record { stood = a; named = b; bounded = c; known = refl }
plain_good k s (end_do j) a b c = record { stood = a; named = b; bounded = c; known = refl }
plain_good k s close a b c = record { stood = a; named = b; bounded = c; known = refl }
