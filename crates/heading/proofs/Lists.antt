-- Lists of parts that have a first one; what a table keeps; ranks.
use mathlib.Core.Path.{◌≡◌, refl, ◌∙◌, ap}
use mathlib.Core.Bool.{Bool, true, false}
use mathlib.Core.List.{List, [], ◌∷◌}
use Prim.Native.Nat.{ℕ, ◌≤◌, max}
use native.Mathlib.Omega.{arith}
use Rattle.syntax.specs.Reader.{Parsed, broken, done, Reader, next, read_more, peek_in, skip_in}
use Rattle.lexer.specs.Places.{Lands}
use Rattle.heading.specs.Lists.{read_some, order, Keeps}

-- one part at least
abbrev pub Nonempty : {A : Type 0} → List A → Type 0
Nonempty [] = ⊥
Nonempty (x ∷ xs) = Unit {0}

pub some_nonempty : {A : Type 0} (r : Reader (List ℕ) A) (s : List ℕ) (P : List A → Type 0) (f : ℕ) (u : List ℕ) (m : ℕ)
    → Lands P s (read_some f r u) m → Lands (λ xs. Nonempty xs × P xs) s (read_some f r u) m
some_nonempty {A} r s P f u m = go (r u)
  where
    at : (x : A) (q : Parsed (List ℕ) (List A)) → Lands P s (next q (λ xs. done (x ∷ xs))) m
        → Lands (λ ys. Nonempty ys × P ys) s (next q (λ xs. done (x ∷ xs))) m
    at x broken l = l
    at x (done xs v) l = (l.0, l.1, (tt, l.2))

    go : (p : Parsed (List ℕ) A) → Lands P s (next p (λ x w. next (read_more peek_in skip_in f r w) (λ xs. done (x ∷ xs)))) m
        → Lands (λ ys. Nonempty ys × P ys) s (next p (λ x w. next (read_more peek_in skip_in f r w) (λ xs. done (x ∷ xs)))) m
    go broken l = l
    go (done x w) l = at x (read_more peek_in skip_in f r w) l

-- ---- one part after the other

pub keeps_on : (T T₁ T₂ : List ℕ) → Keeps T T₁ → Keeps T₁ T₂ → Keeps T T₂
keeps_on T T₁ T₂ f g h = let (a, b) = f h in let (x, y) = g a in (x, y ∙ b)

-- ---- ranks

pub order_unnamed : (n b : Bool) → n ≡ false → order n b ≡ 2
order_unnamed n b h = ap (λ (x : Bool). order x b) h

-- a part in order has right names and is within the limits
pub good_order : (a b : Bool) → order a b ≡ 0 → (a ≡ true) × (b ≡ true)
good_order true true e = (refl, refl)
good_order true false e = absurd (omega (arith, e))
good_order false b e = absurd (omega (arith, e))

pub order_most : (n b : Bool) → order n b ≤ 2
order_most true true = omega arith
order_most true false = omega arith
order_most false b = omega arith

pub order_some : (n : Bool) → 1 ≤ order n false
order_some true = omega arith
order_some false = omega arith

-- limits are no matter once one is passed
pub order_either : (n a b : Bool) (m : ℕ) → 1 ≤ m → max m (order n a) ≡ max m (order n b)
order_either true true true m h = refl
order_either true true false m h = omega arith
order_either true false true m h = omega arith
order_either true false false m h = refl
order_either false a b m h = refl
