-- What is lent fits.
use mathlib.Core.Path.{◌≡◌, refl}
use Rattle.std.specs.Prelude.{Result, Ok, Err}
use Rattle.answers.specs.declared.Refusal.{Refusal}
use mathlib.Core.Bool.{Bool, true, false, cond}
use mathlib.Core.List.{List, [], ◌∷◌}
use Prim.Native.Nat.{ℕ, zero, suc, ◌≤◌, ◌<◌}
use native.Mathlib.Omega.{arith}
use borrow.Author.Tests.{eqb-true, leb-true, ltb-true, eq-eqb, le-leb}
use lib.Dec.{eqb, leb, ltb}
use lib.ListN.{length, get_or}
use Rattle.syntax.specs.Bytes.{all}
use Rattle.syntax.proofs.Spelling.{both_true}
use Rattle.answers.specs.Answers.{needed, cells_number, fit_number, completed, refusal_at}

pub record Fits (n p m w : ℕ) (ps : List ℕ) : Type 0 where
  pub cells_are : m ≡ n
  pub words_are : needed n p ≤ w
  pub names : (j : ℕ) → j < length ps → get_or ps j 0 < p

all_at : (p : ℕ) (ps : List ℕ) → all (λ b. ltb b p) ps ≡ true → (j : ℕ) → j < length ps → get_or ps j 0 < p
all_at p [] h j b = absurd (omega arith)
all_at p (x ∷ ps) h zero b = ltb-true x p (both_true (ltb x p) _ h).0
all_at p (x ∷ ps) h (suc j) b = all_at p ps (both_true (ltb x p) _ h).1 j (omega arith)

pub fit_zero : (n p m w : ℕ) (ps : List ℕ) → fit_number n p m w ps ≡ 0 → Fits n p m w ps
fit_zero n p m w ps = go (eqb m n) (leb (needed n p) w) (all (λ b. ltb b p) ps) refl refl refl
  where
    go : (a b c : Bool) → eqb m n ≡ a → leb (needed n p) w ≡ b → all (λ b. ltb b p) ps ≡ c → ◌≡◌ {A = ℕ} (cond a (cond b (cond c 0 7) 6) 5) 0 → Fits n p m w ps
    go true true true ea eb ec z = record { cells_are = eqb-true m n ea; words_are = leb-true (needed n p) w eb; names = all_at p ps ec }
    go true true false ea eb ec z = absurd (omega (arith, z))
    go true false c ea eb ec z = absurd (omega (arith, z))
    go false b c ea eb ec z = absurd (omega (arith, z))

-- what the functions on what is lent answer, by the number of what can't be taken
pub fits_done : (n : ℕ) → Ok tt ≡ completed n → n ≡ 0
fits_done zero e = refl
fits_done (suc n) e = cc

pub fits_not : (n : ℕ) (e : Refusal) → Err e ≡ completed n → (e ≡ refusal_at n 0) × (0 < n)
fits_not zero e q = cc
fits_not (suc n) e q = (cc, omega arith)

pub cells_done : (n m : ℕ) → Ok tt ≡ completed (cells_number n m) → m ≡ n
cells_done n m h = go (eqb m n) refl (fits_done (cells_number n m) h)
  where
    go : (b : Bool) → eqb m n ≡ b → ◌≡◌ {A = ℕ} (cond b 0 5) 0 → m ≡ n
    go true e z = eqb-true m n e
    go false e z = absurd (omega (arith, z))

pub fits_none : (n p m w : ℕ) → m ≡ n → needed n p ≤ w → fit_number n p m w [] ≡ 0
fits_none n p m w e h = λ i. cond (eq-eqb m n e i) (cond (le-leb (needed n p) w h i) 0 6) 5
