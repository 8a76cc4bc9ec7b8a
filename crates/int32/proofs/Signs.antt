-- Signed tests and signed sums of the machine, as facts on magnitudes. Assumes nothing.
use Rattle.std.proofs.Common.{◌≡◌, ℕ, zero, suc, ◌+◌, ◌-◌, ◌^◌, ◌<◌, true, false, eqb, ℤ, pos, negsuc, ◌-ℤ◌, sym, refl, ap, ◌∙◌, arith, w32, SFits, to_z, of_z, eq-eqb, ne_eqb, leb-false}
use native.Mathlib.Decide.{ℕ_discrete}
use lib.Signed.{mag, le_z}
use mir.Syntax.{Width}
use mir.ValLaws.{to_z-of_z}
use Rattle.std.specs.Int.{int_max}
use Rattle.std.proofs.lemmas.Bool.Decides.{nat_tests}
use Rattle.int32.specs.Integers.{same, greater, larger}
use Rattle.int32.proofs.Laws.{sub_cases, larger_greater}

is_pos : (z : ℤ) → le_z (pos 0) z ≡ true → z ≡ pos (mag z)
is_pos (pos n) e = refl
is_pos (negsuc n) e = cc

is_neg : (z : ℤ) → le_z (pos 0) z ≡ false → z ≡ negsuc (mag z)
is_neg (pos n) e = absurd (none n (leb-false 0 n e))
  where
    none : (n : ℕ) → n < 0 → ⊥
    none n h = omega arith
is_neg (negsuc n) e = refl

-- the test of a sign, on the bits
pub test_pos : {w : Width} (z : ℤ) → SFits w z → le_z (pos 0) (to_z w (of_z w z)) ≡ true → z ≡ pos (mag z)
test_pos {w} z f e = is_pos z (ap (le_z (pos 0)) (sym (to_z-of_z w z f)) ∙ e)

pub test_neg : {w : Width} (z : ℤ) → SFits w z → le_z (pos 0) (to_z w (of_z w z)) ≡ false → z ≡ negsuc (mag z)
test_neg {w} z f e = is_neg z (ap (le_z (pos 0)) (sym (to_z-of_z w z f)) ∙ e)

-- -1 - z
pub flip_neg : (n : ℕ) → negsuc 0 -ℤ negsuc n ≡ pos n
flip_neg n = sub_cases (λ z. z ≡ pos n) (suc n) 1 (λ h. absurd (omega arith)) (λ h. ap pos (omega arith))

pub flip_pos : (n : ℕ) → negsuc 0 -ℤ pos n ≡ negsuc n
flip_pos zero = refl
flip_pos (suc n) = ap negsuc (more n)
  where
    more : (n : ℕ) → suc (0 + n) ≡ suc n
    more n = omega arith

-- the test of equality, on the bits
pub test_same : (x y : ℤ) → SFits w32 x → SFits w32 y → eqb (of_z w32 x) (of_z w32 y) ≡ same x y
unfolding same
test_same (pos a) (pos b) f g = refl
test_same (pos a) (negsuc b) f g = ne_eqb a (2 ^ 32 - suc b) (omega (arith, f.sfits, g.sfits))
test_same (negsuc a) (pos b) f g = ne_eqb (2 ^ 32 - suc a) b (omega (arith, f.sfits, g.sfits))
test_same (negsuc a) (negsuc b) f g = elim (ℕ_discrete a b) [
  | yes e ↦ eq-eqb (2 ^ 32 - suc a) (2 ^ 32 - suc b) (omega arith) ∙ sym (eq-eqb a b e)
  | no n ↦ ne_eqb (2 ^ 32 - suc a) (2 ^ 32 - suc b) (omega (arith, f.sfits, g.sfits)) ∙ sym (ne_eqb a b n)
]

-- the library's larger number is the one of the definitions
max_greater : (x y : ℤ) → int_max x y ≡ greater x y
unfolding greater
max_greater (pos a) (pos b) = grind (arith, nat_tests)
max_greater (pos a) (negsuc b) = refl
max_greater (negsuc a) (pos b) = refl
max_greater (negsuc a) (negsuc b) = grind (arith, nat_tests)

pub max_larger : (x y : ℤ) → SFits w32 x → SFits w32 y → int_max x y ≡ larger x y
max_larger x y f g = max_greater x y ∙ sym (larger_greater x y f g)
