-- RULES 2.2 (document 02, Point 4): by the cases of the signs `/` is what it was, and what the Fortran standard says: of the whole numbers from zero
-- to the exact quotient, the one nearest to it. Assumes nothing.
use Rattle.std.proofs.Common.{◌≡◌, ℕ, zero, suc, ◌+◌, ◌*◌, ◌/◌, ◌%◌, ◌^◌, ◌<◌, Bool, false, cond, [], ◌∷◌, ℤ, pos, negsuc, ◌-ℤ◌, ◌*ℤ◌, neg_ℤ, nat_abs, sym, refl, ap, ◌∙◌, le_trans, lt_of_lt_of_le, lt_of_le_of_lt, mul-le-mul_right, mod-lt, zero-lt-suc, div-add-mod', div-le_self, div-one, arith, w32, SFits, eq-eqb, ne_eqb}
use native.Mathlib.Nat.{div-lt_self, le-suc}
use native.Mathlib.Decide.{ℕ_discrete}
use mathlib.Core.Path.{subst⁻¹}
use lib.IntN.{+ℤ_idl, +ℤ_idr, ℤ_discrete}
use Rattle.int32.specs.Integers.{word, value, wrap, same, truncated, at_end, quotient, by_signs}
use Rattle.int32.proofs.Laws.{wrap_id}
use Rattle.int32.proofs.Sizes.{size_negation, size_product, size_pos, none_apart, difference_product}
use Rattle.int32.proofs.Division.{neg_mag}
use Rattle.int32.proofs.Rounding.{off, apart, End, short_of_end, off_pos, off_neg, signs_size, signs_off}

-- ---- the cases

truncated_signs : (x y : ℤ) → truncated x y ≡ by_signs ◌/◌ x y
unfolding by_signs
truncated_signs (pos a) (pos b) = refl
truncated_signs (pos a) (negsuc b) = refl
truncated_signs (negsuc a) (pos b) = refl
truncated_signs (negsuc a) (negsuc b) = refl

-- "−2147483648 divided by −1 … gives −2147483648"
pub quotient_end : quotient (negsuc 2147483647) (negsuc 0) ≡ negsuc 2147483647
unfolding quotient same
quotient_end = refl

-- no other pair is told as the end
told : (x y : ℤ) → (End x y → ⊥) → at_end x y ≡ false
unfolding same
told (pos a) y h = refl
told (negsuc a) y h = elim (ℕ_discrete a 2147483647) [
  | yes e ↦ ap (λ (t : Bool). cond t (same y (negsuc 0)) false) (eq-eqb a 2147483647 e) ∙ other y (λ k. h (ap negsuc e, k))
  | no n ↦ ap (λ (t : Bool). cond t (same y (negsuc 0)) false) (ne_eqb a 2147483647 n)
]
  where
    other : (y : ℤ) → (y ≡ negsuc 0 → ⊥) → same y (negsuc 0) ≡ false
    other (pos b) k = refl
    other (negsuc b) k = ne_eqb b 0 (λ e. k (ap negsuc e))

pub quotient_truncated : (x y : ℤ) → (End x y → ⊥) → quotient x y ≡ truncated x y
unfolding quotient
quotient_truncated x y h = ap (λ (t : Bool). cond t (negsuc 2147483647) (truncated x y)) (told x y h)

-- all quotients but that are in the range
pub truncated_fits : (x y : ℤ) → SFits w32 x → (End x y → ⊥) → SFits w32 (truncated x y)
truncated_fits (pos a) (pos b) f h = record { sfits = lt_of_le_of_lt (div-le_self a b) f.sfits }
truncated_fits (pos a) (negsuc b) f h = record { sfits = lt_of_le_of_lt (neg_mag (a / suc b) (le_trans (div-le_self a (suc b)) (le-suc a))) f.sfits }
truncated_fits (negsuc a) (pos b) f h = record { sfits = lt_of_le_of_lt (neg_mag (suc a / b) (div-le_self (suc a) b)) f.sfits }
truncated_fits (negsuc a) (negsuc zero) f h =
    record { sfits = subst⁻¹ (λ (n : ℕ). n < 2 ^ 31) (div-one (suc a)) (short_of_end a f.sfits h) }
truncated_fits (negsuc a) (negsuc (suc b)) f h = record { sfits = lt_of_lt_of_le (div-lt_self (zero-lt-suc a) (two b)) f.sfits }
  where
    two : (b : ℕ) → 1 < suc (suc b)
    two b = omega arith

-- ---- "Every quotient stays what it is"

end_wrapped : wrap (by_signs ◌/◌ (negsuc 2147483647) (negsuc 0)) ≡ negsuc 2147483647
unfolding wrap by_signs word value
end_wrapped = refl

-- the definition of document 01, before the cases: the truncated quotient, wrapped; for all operands that are cells
pub quotient_kept : (x y : ℤ) → SFits w32 x → quotient x y ≡ wrap (by_signs ◌/◌ x y)
quotient_kept x y f = elim (ℤ_discrete x (negsuc 2147483647)) [
  | yes e ↦ elim (ℤ_discrete y (negsuc 0)) [
    | yes k ↦ (λ i. quotient (e i) (k i)) ∙ quotient_end ∙ sym end_wrapped ∙ (λ i. wrap (by_signs ◌/◌ (sym e i) (sym k i)))
    | no n ↦ off_end (λ h. n h.1)
  ]
  | no n ↦ off_end (λ h. n h.0)
]
  where
    off_end : (End x y → ⊥) → quotient x y ≡ wrap (by_signs ◌/◌ x y)
    off_end h = quotient_truncated x y h ∙ sym (wrap_id (truncated x y) (truncated_fits x y f h)) ∙ ap wrap (truncated_signs x y)

-- ---- the standard's sentence

-- q lies between zero and the exact quotient of x over y, either included: q times y lies between zero and x
abbrev pub Between : ℤ → ℤ → ℤ → Type 0
Between x y q = nat_abs (q *ℤ y) + off x y q ≡ nat_abs x

-- two numbers between zero and x are as far apart as their sizes
same_side : (x u v : ℤ) → nat_abs u + nat_abs (x -ℤ u) ≡ nat_abs x → nat_abs v + nat_abs (x -ℤ v) ≡ nat_abs x → nat_abs (u -ℤ v) ≡ apart (nat_abs u) (nat_abs v)
same_side (pos a) (pos m) (pos n) h k = off_pos m n
same_side (pos a) (pos m) (negsuc n) h k = absurd (omega (arith, k))
same_side (pos a) (negsuc m) v h k = absurd (omega (arith, h))
same_side (negsuc a) (pos zero) v h k = ap nat_abs (+ℤ_idl (neg_ℤ v)) ∙ size_negation v ∙ omega arith
same_side (negsuc a) (pos (suc m)) v h k = absurd (omega (arith, h))
same_side (negsuc a) (negsuc m) (pos zero) h k = ap nat_abs (+ℤ_idr (negsuc m)) ∙ omega arith
same_side (negsuc a) (negsuc m) (pos (suc n)) h k = absurd (omega (arith, k))
same_side (negsuc a) (negsuc m) (negsuc n) h k = off_neg m (suc n)

-- of two such numbers the one that leaves less than the divisor is the nearer
module _ (x y p q : ℤ) (h : Between x y p) (k : Between x y q) (n : p ≡ q → ⊥) (l : off x y q < nat_abs y) where
  spread : nat_abs (p -ℤ q) * nat_abs y ≡ apart (nat_abs (p *ℤ y)) (nat_abs (q *ℤ y))
  spread = sym (size_product (p -ℤ q) y) ∙ ap nat_abs (difference_product p q y) ∙ same_side x (p *ℤ y) (q *ℤ y) h k

  nearer_off : off x y q < off x y p
  nearer_off = let m = mul-le-mul_right (nat_abs y) (size_pos (p -ℤ q) (λ e. n (none_apart p q e))) in omega (arith, spread, h, k, l)

module _ (x y : ℤ) where
  whole : nat_abs (truncated x y *ℤ y) ≡ nat_abs x / nat_abs y * nat_abs y
  whole = size_product (truncated x y) y ∙ ap (λ (n : ℕ). n * nat_abs y) (ap nat_abs (truncated_signs x y) ∙ signs_size ◌/◌ x y)

  rest : off x y (truncated x y) ≡ nat_abs x % nat_abs y
  rest = ap (off x y) (truncated_signs x y) ∙ signs_off ◌/◌ x y ∙ omega (arith, div-add-mod' (nat_abs x) (nat_abs y))

  truncated_between : Between x y (truncated x y)
  truncated_between = omega (arith, whole, rest, div-add-mod' (nat_abs x) (nat_abs y))

  truncated_nearest : (y ≡ pos 0 → ⊥) → (p : ℤ) → Between x y p → (p ≡ truncated x y → ⊥) → off x y (truncated x y) < off x y p
  truncated_nearest z p h n =
      nearer_off x y p (truncated x y) h truncated_between n (omega (arith, rest, mod-lt (nat_abs x) (size_pos y z)))

-- of the whole numbers from zero to the exact quotient, the one nearest to it: any other lies farther off
module _ (x y : ℤ) (h : End x y → ⊥) where
  pub quotient_between : Between x y (quotient x y)
  quotient_between = subst⁻¹ (Between x y) (quotient_truncated x y h) (truncated_between x y)

  pub quotient_nearest : (y ≡ pos 0 → ⊥) → (p : ℤ) → Between x y p → (p ≡ quotient x y → ⊥) → off x y (quotient x y) < off x y p
  quotient_nearest =
      subst⁻¹ (λ (q : ℤ). (y ≡ pos 0 → ⊥) → (p : ℤ) → Between x y p → (p ≡ q → ⊥) → off x y q < off x y p) (quotient_truncated x y h)
      (truncated_nearest x y)

-- ---- a row for each case: 7 and -7 over 2 and -2; -2147483648 over -1, and beside it

pub quotient_rows :
    quotient (pos 7) (pos 2) ∷ quotient (pos 7) (negsuc 1) ∷ quotient (negsuc 6) (pos 2) ∷ quotient (negsuc 6) (negsuc 1)
    ∷ quotient (negsuc 2147483647) (negsuc 0) ∷ quotient (negsuc 2147483647) (pos 1) ∷ quotient (negsuc 2147483647) (negsuc 2147483647)
    ∷ quotient (pos 2147483647) (negsuc 0) ∷ []
    ≡ pos 3 ∷ negsuc 2 ∷ negsuc 2 ∷ pos 3 ∷ negsuc 2147483647 ∷ negsuc 2147483647 ∷ pos 1 ∷ negsuc 2147483646 ∷ []
unfolding quotient same
quotient_rows = refl
