-- Sizes of sums, differences and products of ℤ. Assumes nothing.
use Rattle.std.proofs.Common.{◌≡◌, ℕ, zero, suc, ◌+◌, ◌*◌, ◌%◌, ◌<◌, ◌≤◌, ℤ, pos, negsuc, ◌+ℤ◌, ◌-ℤ◌, ◌*ℤ◌, neg_ℤ, nat_abs, sym, refl, ap, ◌∙◌, arith}
use lib.IntN.{suc_ℤ, pred_ℤ, neg_ℤ-neg_ℤ, neg_ℤ-suc_ℤ, neg_ℤ-pred_ℤ, neg_ℤ-+ℤ, +ℤ-suc_ℤ, +ℤ-pred_ℤ, +ℤ_idl, +ℤ_idr, +ℤ_invr, +ℤ_comm, +ℤ_assoc, -ℤ-+ℤ_cancel, zero-*ℤ, suc_ℤ-*ℤ, pred_ℤ-*ℤ}
use Rattle.int32.proofs.Laws.{sub_cases}

pub size_negation : (z : ℤ) → nat_abs (neg_ℤ z) ≡ nat_abs z
size_negation (pos zero) = refl
size_negation (pos (suc n)) = refl
size_negation (negsuc n) = refl

pub size_sum : (x y : ℤ) → nat_abs (x +ℤ y) ≤ nat_abs x + nat_abs y
size_sum (pos a) (pos b) = omega arith
size_sum (pos a) (negsuc b) = sub_cases (λ z. nat_abs z ≤ a + suc b) a (suc b) (λ h. omega arith) (λ h. omega arith)
size_sum (negsuc a) (pos b) = sub_cases (λ z. nat_abs z ≤ suc a + b) b (suc a) (λ h. omega arith) (λ h. omega arith)
size_sum (negsuc a) (negsuc b) = omega arith

pub size_product : (x y : ℤ) → nat_abs (x *ℤ y) ≡ nat_abs x * nat_abs y
size_product (pos a) (pos b) = refl
size_product (pos a) (negsuc b) = size_negation (pos (a * suc b))
size_product (negsuc a) (pos b) = size_negation (pos (suc a * b))
size_product (negsuc a) (negsuc b) = refl

pub size_pos : (z : ℤ) → (z ≡ pos 0 → ⊥) → 0 < nat_abs z
size_pos (pos zero) h = absurd (h refl)
size_pos (pos (suc n)) h = omega arith
size_pos (negsuc n) h = omega arith

-- the sum of two even numbers
pub even_sum : (x y : ℤ) → nat_abs x % 2 ≡ 0 → nat_abs y % 2 ≡ 0 → nat_abs (x +ℤ y) % 2 ≡ 0
even_sum (pos a) (pos b) e f = omega arith
even_sum (pos a) (negsuc b) e f = sub_cases (λ z. nat_abs z % 2 ≡ 0) a (suc b) (λ h. omega arith) (λ h. omega arith)
even_sum (negsuc a) (pos b) e f = sub_cases (λ z. nat_abs z % 2 ≡ 0) b (suc a) (λ h. omega arith) (λ h. omega arith)
even_sum (negsuc a) (negsuc b) e f = omega arith

-- ---- differences

-- a difference of 0 is none
pub none_apart : (p q : ℤ) → p -ℤ q ≡ pos 0 → p ≡ q
none_apart p q e = sym (-ℤ-+ℤ_cancel p q) ∙ ap (λ (z : ℤ). z +ℤ q) e ∙ +ℤ_idl q

-- two numbers from a third
pub from_third : (x u v : ℤ) → (x -ℤ v) -ℤ (x -ℤ u) ≡ u -ℤ v
from_third x u v =
    ap (λ (z : ℤ). (x -ℤ v) +ℤ z) (neg_ℤ-+ℤ x (neg_ℤ u) ∙ ap (λ (z : ℤ). neg_ℤ x +ℤ z) (neg_ℤ-neg_ℤ u))
    ∙ ap (λ (z : ℤ). z +ℤ (neg_ℤ x +ℤ u)) (+ℤ_comm x (neg_ℤ v))
    ∙ +ℤ_assoc (neg_ℤ v) x (neg_ℤ x +ℤ u)
    ∙ ap (λ (z : ℤ). neg_ℤ v +ℤ z) (sym (+ℤ_assoc x (neg_ℤ x) u) ∙ ap (λ (z : ℤ). z +ℤ u) (+ℤ_invr x) ∙ +ℤ_idl u)
    ∙ +ℤ_comm (neg_ℤ v) u

-- a product with a difference, from the one with a number beside it
module _ (p q y : ℤ) (h : (p -ℤ q) *ℤ y ≡ p *ℤ y -ℤ q *ℤ y) where
  one_more : (p -ℤ suc_ℤ q) *ℤ y ≡ p *ℤ y -ℤ suc_ℤ q *ℤ y
  one_more =
      ap (λ (z : ℤ). z *ℤ y) (ap (λ (z : ℤ). p +ℤ z) (neg_ℤ-suc_ℤ q) ∙ +ℤ-pred_ℤ p (neg_ℤ q))
      ∙ pred_ℤ-*ℤ (p -ℤ q) y
      ∙ ap (λ (z : ℤ). z -ℤ y) h
      ∙ +ℤ_assoc (p *ℤ y) (neg_ℤ (q *ℤ y)) (neg_ℤ y)
      ∙ ap (λ (z : ℤ). p *ℤ y +ℤ z) (sym (neg_ℤ-+ℤ (q *ℤ y) y) ∙ ap neg_ℤ (sym (suc_ℤ-*ℤ q y)))

  one_less : (p -ℤ pred_ℤ q) *ℤ y ≡ p *ℤ y -ℤ pred_ℤ q *ℤ y
  one_less =
      ap (λ (z : ℤ). z *ℤ y) (ap (λ (z : ℤ). p +ℤ z) (neg_ℤ-pred_ℤ q) ∙ +ℤ-suc_ℤ p (neg_ℤ q))
      ∙ suc_ℤ-*ℤ (p -ℤ q) y
      ∙ ap (λ (z : ℤ). z +ℤ y) h
      ∙ +ℤ_assoc (p *ℤ y) (neg_ℤ (q *ℤ y)) y
      ∙ ap (λ (z : ℤ). p *ℤ y +ℤ z)
      (ap (λ (z : ℤ). neg_ℤ (q *ℤ y) +ℤ z) (sym (neg_ℤ-neg_ℤ y)) ∙ sym (neg_ℤ-+ℤ (q *ℤ y) (neg_ℤ y)) ∙ ap neg_ℤ (sym (pred_ℤ-*ℤ q y)))

module _ (p y : ℤ) where
  by_pos : (n : ℕ) → (p -ℤ pos n) *ℤ y ≡ p *ℤ y -ℤ pos n *ℤ y
  by_pos zero = ap (λ (z : ℤ). z *ℤ y) (+ℤ_idr p) ∙ sym (+ℤ_idr (p *ℤ y)) ∙ ap (λ (z : ℤ). p *ℤ y -ℤ z) (sym (zero-*ℤ y))
  by_pos (suc n) = one_more p (pos n) y (by_pos n)

  by_neg : (n : ℕ) → (p -ℤ negsuc n) *ℤ y ≡ p *ℤ y -ℤ negsuc n *ℤ y
  by_neg zero = one_less p (pos zero) y (by_pos zero)
  by_neg (suc n) = one_less p (negsuc n) y (by_neg n)

pub difference_product : (p q y : ℤ) → (p -ℤ q) *ℤ y ≡ p *ℤ y -ℤ q *ℤ y
difference_product p (pos n) y = by_pos p y n
difference_product p (negsuc n) y = by_neg p y n
