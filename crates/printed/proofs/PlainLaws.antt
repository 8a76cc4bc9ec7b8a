-- Laws of a line with its copies written out and its ending in two words: it goes with taking zeros away, and a second time changes nothing.
use mathlib.Core.Path.{◌≡◌, refl, sym, ◌∙◌, ap, ap₂}
use mathlib.Core.Bool.{true, false}
use mathlib.Core.List.{List, [], ◌∷◌, ◌++◌, map, map-append, append_assoc}
use mathlib.Core.Option.{none, some}
use Prim.Native.Nat.{ℕ, zero, suc, ◌<◌}
use native.Mathlib.Omega.{arith}
use lib.ListN.{replicate}
use Rattle.syntax.specs.Grammar.{Item, item, assign, when, otherwise, end_if, Line, declare, give, direct, loop, inside, end_do, close}
use Rattle.syntax.specs.Known.{copies}
use Rattle.printed.specs.Form.{once, written_out, data_line, plain, closing}
use Rattle.printed.specs.Restated.{short_item, short}
use Rattle.printed.proofs.ZeroLaws.{number_shortest}

-- ---- items

map_replicate : {A B : Type 0} (f : A → B) (n : ℕ) (x : A) → map f (replicate n x) ≡ replicate n (f x)
map_replicate f zero x = refl
map_replicate f (suc n) x = ap (λ xs. f x ∷ xs) (map_replicate f n x)

pub copies_short : (i : Item) → copies (short_item i) ≡ copies i
copies_short (item none l d) = refl
copies_short (item (some r) l d) = number_shortest r

once_short : (i : Item) → once (short_item i) ≡ short_item (once i)
once_short (item r l d) = refl

pub written_out_short : (is : List Item) → written_out (map short_item is) ≡ map short_item (written_out is)
unfolding written_out
written_out_short [] = refl
written_out_short (i ∷ is) =
    ap₂ (λ (xs ys : List Item). xs ++ ys)
    (ap₂ (λ (n : ℕ) (j : Item). replicate n j) (copies_short i) (once_short i) ∙ sym (map_replicate short_item (copies i) (once i)))
    (written_out_short is)
    ∙ sym (map-append short_item (replicate (copies i) (once i)) (written_out is))

pub written_out_append : (is js : List Item) → written_out (is ++ js) ≡ written_out is ++ written_out js
unfolding written_out
written_out_append [] js = refl
written_out_append (i ∷ is) js =
    ap (λ (xs : List Item). replicate (copies i) (once i) ++ xs) (written_out_append is js)
    ∙ sym (append_assoc (replicate (copies i) (once i)) (written_out is) (written_out js))

-- what has no `r*` stays
pub written_out_once : (n : ℕ) (i : Item) → written_out (replicate n (once i)) ≡ replicate n (once i)
unfolding written_out
written_out_once zero i = refl
written_out_once (suc n) (item r l d) = ap (λ (xs : List Item). item none l d ∷ xs) (written_out_once n (item r l d))

written_out_twice : (is : List Item) → written_out (written_out is) ≡ written_out is
unfolding written_out
written_out_twice [] = refl
written_out_twice (i ∷ is) =
    written_out_append (replicate (copies i) (once i)) (written_out is)
    ∙ ap₂ (λ (xs ys : List Item). xs ++ ys) (written_out_once (copies i) i) (written_out_twice is)

-- one item or more
pub data Filled : List Item → Type 0 where
  filled : (i : Item) (is : List Item) → Filled (i ∷ is)

pub filled_after : (is : List Item) {js : List Item} → Filled js → Filled (is ++ js)
filled_after [] h = h
filled_after (i ∷ is) {js} h = filled i (is ++ js)

pub filled_copies : (n : ℕ) (i : Item) (js : List Item) → 0 < n → Filled (replicate n i ++ js)
filled_copies zero i js h = absurd (omega arith)
filled_copies (suc n) i js h = filled i (replicate n i ++ js)

pub filled_out : (i : Item) (is : List Item) → 0 < copies i → Filled (written_out (i ∷ is))
unfolding written_out
filled_out i is h = filled_copies (copies i) (once i) (written_out is) h

-- ---- lines

data_line_short : (x : List ℕ) (i : Item) (is : List Item) → short (data_line x i is) ≡ data_line x (short_item i) (map short_item is)
unfolding short
data_line_short x i [] = refl
data_line_short x i (j ∷ js) = refl

pub plain_short : (l : Line) → plain (short l) ≡ short (plain l)
unfolding plain short
plain_short (declare d ds) = refl
plain_short (give x i is) =
    ap₂ (data_line x) (once_short i) (written_out_short (i ∷ is)) ∙ sym (data_line_short x (once i) (written_out (i ∷ is)))
plain_short (direct cs) = refl
plain_short (loop v l m k n) = refl
plain_short (inside (assign r e)) = refl
plain_short (inside (when a r b)) = refl
plain_short (inside otherwise) = refl
plain_short (inside (end_if j)) = refl
plain_short (end_do j) = refl
plain_short close = refl

plain_data : (x : List ℕ) (i : Item) (js : List Item) → written_out js ≡ js → plain (data_line x (once i) js) ≡ data_line x (once i) js
unfolding plain written_out
plain_data x (item r l d) [] h = refl
plain_data x i (j ∷ js) h = ap (data_line x (once j)) h

pub plain_twice : (l : Line) → plain (plain l) ≡ plain l
unfolding plain
plain_twice (declare d ds) = refl
plain_twice (give x i is) = plain_data x i (written_out (i ∷ is)) (written_out_twice (i ∷ is))
plain_twice (direct cs) = refl
plain_twice (loop v l m k n) = refl
plain_twice (inside (assign r e)) = refl
plain_twice (inside (when a r b)) = refl
plain_twice (inside otherwise) = refl
plain_twice (inside (end_if j)) = refl
plain_twice (end_do j) = refl
plain_twice close = refl

-- ---- the closing directive

pub closing_is : (l : Line) → closing l ≡ true → l ≡ close
closing_is (declare d ds) h = let z : ◌≡◌ {A = ℕ} 0 1 = cc in absurd (omega arith)
closing_is (give x i is) h = let z : ◌≡◌ {A = ℕ} 0 1 = cc in absurd (omega arith)
closing_is (direct cs) h = let z : ◌≡◌ {A = ℕ} 0 1 = cc in absurd (omega arith)
closing_is (loop v l m k n) h = let z : ◌≡◌ {A = ℕ} 0 1 = cc in absurd (omega arith)
closing_is (inside t) h = let z : ◌≡◌ {A = ℕ} 0 1 = cc in absurd (omega arith)
closing_is (end_do j) h = let z : ◌≡◌ {A = ℕ} 0 1 = cc in absurd (omega arith)
closing_is close h = refl

pub closing_short : (l : Line) → closing (short l) ≡ closing l
unfolding short
closing_short (declare d ds) = refl
closing_short (give x i is) = refl
closing_short (direct cs) = refl
closing_short (loop v l m k n) = refl
closing_short (inside t) = refl
closing_short (end_do j) = refl
closing_short close = refl

closing_data : (x : List ℕ) (i : Item) (js : List Item) → closing (data_line x i js) ≡ false
closing_data x i [] = refl
closing_data x i (j ∷ js) = refl

pub closing_plain : (l : Line) → closing (plain l) ≡ closing l
unfolding plain
closing_plain (declare d ds) = refl
closing_plain (give x i is) = closing_data x (once i) (written_out (i ∷ is))
closing_plain (direct cs) = refl
closing_plain (loop v l m k n) = refl
closing_plain (inside (assign r e)) = refl
closing_plain (inside (when a r b)) = refl
closing_plain (inside otherwise) = refl
closing_plain (inside (end_if j)) = refl
closing_plain (end_do j) = refl
closing_plain close = refl
