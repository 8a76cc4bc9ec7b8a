-- RULES 2.3 (document 02, Point 2): rdiv is the whole number nearest to the exact quotient, and of two nearest ones the even one; where there are
-- not two, it is what document 01 made it. Assumes nothing.
use Rattle.std.proofs.Common.{◌≡◌, ℕ, zero, suc, ◌+◌, ◌-◌, ◌*◌, ◌/◌, ◌%◌, ◌^◌, ◌<◌, ◌≤◌, ℤ, pos, negsuc, ◌+ℤ◌, ◌-ℤ◌, ◌*ℤ◌, neg_ℤ, nat_abs, sym, refl, ap, ◌∙◌, subst, le_trans, mul-le-mul_right, mod-lt, add-mul, mul-le-mul_left, one-mul, div-add-mod', zero-mul, le-mul_of_pos_right, mul_left_comm, arith, w32, SFits}
use native.Mathlib.Nat.{div-eq_of_lt-le, le-suc}
use native.Mathlib.Decide.{ℕ_discrete}
use mathlib.Core.Path.{subst⁻¹}
use lib.IntN.{neg_ℤ-neg_ℤ, ℤ_discrete}
use Rattle.int32.specs.Integers.{word, value, wrap, by_signs, even_of, nearer, nearest, rdiv}
use Rattle.int32.proofs.Laws.{sub_cases, wrap_id}
use Rattle.int32.proofs.Sizes.{size_negation, size_sum, size_product, size_pos, even_sum, none_apart, from_third, difference_product}
use Rattle.int32.proofs.Division.{nearer_cases, neg_mag}

-- how far q times y lies from x: q is so many parts of y away from the exact quotient
abbrev pub off : ℤ → ℤ → ℤ → ℕ
off x y q = nat_abs (x -ℤ q *ℤ y)

-- q is at most a half away from x over y, and even if it is a half
pub record Nearest (x y q : ℤ) : Type 0 where
  pub near : 2 * off x y q ≤ nat_abs y
  pub even : 2 * off x y q ≡ nat_abs y → nat_abs q % 2 ≡ 0

-- ---- there is one such number, and none is nearer

module _ (x y p q : ℤ) where
  spread : nat_abs (p -ℤ q) * nat_abs y ≤ off x y q + off x y p
  spread =
      subst (λ (n : ℕ). n ≤ off x y q + off x y p)
      (ap nat_abs (from_third x (p *ℤ y) (q *ℤ y) ∙ sym (difference_product p q y)) ∙ size_product (p -ℤ q) y)
      (subst (λ (n : ℕ). nat_abs ((x -ℤ q *ℤ y) -ℤ (x -ℤ p *ℤ y)) ≤ off x y q + n) (size_negation (x -ℤ p *ℤ y))
      (size_sum (x -ℤ q *ℤ y) (neg_ℤ (x -ℤ p *ℤ y))))

  two_off : (p ≡ q → ⊥) → nat_abs y ≤ off x y q + off x y p
  two_off n = let s = spread in let m = mul-le-mul_right (nat_abs y) (size_pos (p -ℤ q) (λ e. n (none_apart p q e))) in omega arith

  no_nearer : Nearest x y q → off x y q ≤ off x y p
  no_nearer h = elim (ℤ_discrete p q) [
    | yes e ↦ subst (λ (z : ℤ). off x y q ≤ off x y z) (sym e) (omega arith)
    | no n ↦ omega (arith, h.near, two_off n)
  ]

  tie_even : Nearest x y q → (p ≡ q → ⊥) → off x y p ≡ off x y q → nat_abs q % 2 ≡ 0
  tie_even h n e = h.even (omega (arith, h.near, two_off n))

  nearest_once : (y ≡ pos 0 → ⊥) → Nearest x y p → Nearest x y q → p ≡ q
  nearest_once z g h = elim (ℤ_discrete p q) [ yes e ↦ e | no n ↦ absurd (odd n) ]
    where
      odd : (p ≡ q → ⊥) → ⊥
      odd n =
          let l = two_off n in
          let k = size_pos (p -ℤ q) (λ e. n (none_apart p q e)) in
          let even_p = g.even (omega (arith, g.near, h.near)) in
          let even_q = h.even (omega (arith, g.near, h.near)) in
          let e = even_sum p (neg_ℤ q) even_p (ap (λ (m : ℕ). m % 2) (size_negation q) ∙ even_q) in
          let m = mul-le-mul_right (nat_abs y) (two k e) in
          omega (arith, g.near, h.near, spread, size_pos y z)
        where
          two : {m : ℕ} → 0 < m → m % 2 ≡ 0 → 2 ≤ m
          two k e = omega arith

-- ---- of magnitudes

-- how far apart two sizes are
abbrev pub apart : ℕ → ℕ → ℕ
apart a b = (a - b) + (b - a)

module _ (a b : ℕ) (h : 0 < b) where
  parts : a / b * b + a % b ≡ a
  parts = div-add-mod' a b

  left : a % b < b
  left = mod-lt a h

  next : (a / b + 1) * b ≡ a / b * b + 1 * b
  next = add-mul (a / b) 1 b

  -- by the neighbour that is taken
  by_neighbour : (P : ℕ → Type 0) → (2 * (a % b) ≤ b → (2 * (a % b) ≡ b → a / b % 2 ≡ 0) → P (a / b))
      → (b ≤ 2 * (a % b) → (2 * (a % b) ≡ b → (a / b + 1) % 2 ≡ 0) → P (a / b + 1)) → P (nearest a b)
  unfolding nearest
  by_neighbour P f g =
      nearer_cases P (a / b) (a % b) (b - a % b) (λ l e. f (omega (arith, left)) (λ k. e (omega arith))) (λ l e. g (omega arith) (λ k. e (omega arith)))

  nearest_near : 2 * apart a (nearest a b * b) ≤ b
  nearest_near = by_neighbour (λ k. 2 * apart a (k * b) ≤ b) (λ l e. omega (arith, parts)) (λ l e. omega (arith, parts, left, next))

  nearest_even : 2 * apart a (nearest a b * b) ≡ b → nearest a b % 2 ≡ 0
  nearest_even =
      by_neighbour (λ k. 2 * apart a (k * b) ≡ b → k % 2 ≡ 0) (λ l e t. e (omega (arith, parts))) (λ l e t. e (omega (arith, parts, left, next)))

  nearest_le : nearest a b ≤ a
  nearest_le = let m = le-mul_of_pos_right (a / b) h in by_neighbour (λ k. k ≤ a) (λ l e. omega (arith, parts)) (λ l e. omega (arith, parts))

  nearest_half : 2 ≤ b → 2 * nearest a b ≤ a + 1
  nearest_half t =
      let m = mul-le-mul_left (a / b) t in
      by_neighbour (λ k. 2 * k ≤ a + 1) (λ l e. omega (arith, parts)) (λ l e. omega (arith, parts))

-- ---- of numbers, by their signs

pub signs_size : (f : ℕ → ℕ → ℕ) (x y : ℤ) → nat_abs (by_signs f x y) ≡ f (nat_abs x) (nat_abs y)
unfolding by_signs
signs_size f (pos a) (pos b) = refl
signs_size f (pos a) (negsuc b) = size_negation (pos (f a (suc b)))
signs_size f (negsuc a) (pos b) = size_negation (pos (f (suc a) b))
signs_size f (negsuc a) (negsuc b) = refl

pub off_pos : (a m : ℕ) → nat_abs (pos a -ℤ pos m) ≡ apart a m
off_pos a zero = omega arith
off_pos a (suc m) = sub_cases (λ z. nat_abs z ≡ apart a (suc m)) a (suc m) (λ h. omega arith) (λ h. omega arith)

pub off_neg : (a m : ℕ) → nat_abs (negsuc a -ℤ neg_ℤ (pos m)) ≡ apart (suc a) m
off_neg a m =
    ap (λ (z : ℤ). nat_abs (negsuc a +ℤ z)) (neg_ℤ-neg_ℤ (pos m))
    ∙ sub_cases (λ z. nat_abs z ≡ apart (suc a) m) m (suc a) (λ h. omega arith) (λ h. omega arith)

neg_neg : (k b : ℕ) → neg_ℤ (pos k) *ℤ negsuc b ≡ pos (k * suc b)
neg_neg zero b = ap (λ (n : ℕ). neg_ℤ (pos n)) (zero-mul (suc b)) ∙ ap pos (sym (zero-mul (suc b)))
neg_neg (suc k) b = refl

neg_pos : (k b : ℕ) → neg_ℤ (pos k) *ℤ pos b ≡ neg_ℤ (pos (k * b))
neg_pos zero b = ap pos (zero-mul b) ∙ ap (λ (n : ℕ). neg_ℤ (pos n)) (sym (zero-mul b))
neg_pos (suc k) b = refl

pub signs_off : (f : ℕ → ℕ → ℕ) (x y : ℤ) → off x y (by_signs f x y) ≡ apart (nat_abs x) (f (nat_abs x) (nat_abs y) * nat_abs y)
unfolding by_signs
signs_off f (pos a) (pos b) = off_pos a (f a b * b)
signs_off f (pos a) (negsuc b) = ap (λ (z : ℤ). nat_abs (pos a -ℤ z)) (neg_neg (f a (suc b)) b) ∙ off_pos a (f a (suc b) * suc b)
signs_off f (negsuc a) (pos b) = ap (λ (z : ℤ). nat_abs (negsuc a -ℤ z)) (neg_pos (f (suc a) b) b) ∙ off_neg a (f (suc a) b * b)
signs_off f (negsuc a) (negsuc b) = off_neg a (f (suc a) (suc b) * suc b)

rounded_nearest : (x y : ℤ) → (y ≡ pos 0 → ⊥) → Nearest x y (by_signs nearest x y)
rounded_nearest x y z = record {
  near = subst⁻¹ (λ (n : ℕ). 2 * n ≤ nat_abs y) (signs_off nearest x y) (nearest_near (nat_abs x) (nat_abs y) (size_pos y z));
  even = λ e. ap (λ (n : ℕ). n % 2) (signs_size nearest x y)
      ∙ nearest_even (nat_abs x) (nat_abs y) (size_pos y z) (ap (λ (n : ℕ). 2 * n) (sym (signs_off nearest x y)) ∙ e);
}

-- ---- in the range, but for the smallest number over -1

-- −2147483648 over −1
abbrev pub End : ℤ → ℤ → Type 0
End x y = (x ≡ negsuc 2147483647) × (y ≡ negsuc 0)

-- any other number over -1 is in the range
pub short_of_end : (a : ℕ) → a < 2 ^ 31 → (End (negsuc a) (negsuc 0) → ⊥) → suc a < 2 ^ 31
short_of_end a f h = elim (ℕ_discrete a 2147483647) [ yes e ↦ absurd (h (ap negsuc e, refl)) | no n ↦ omega arith ]

rounded_fits : (x y : ℤ) → SFits w32 x → (y ≡ pos 0 → ⊥) → (End x y → ⊥) → SFits w32 (by_signs nearest x y)
unfolding by_signs
rounded_fits (pos a) (pos b) f z h = record { sfits = omega (arith, nearest_le a b (size_pos (pos b) z), f.sfits) }
rounded_fits (pos a) (negsuc b) f z h =
    let k = nearest_le a (suc b) (size_pos (negsuc b) z) in
    record { sfits = omega (arith, neg_mag (nearest a (suc b)) (le_trans k (le-suc a)), f.sfits) }
rounded_fits (negsuc a) (pos b) f z h =
    let k = nearest_le (suc a) b (size_pos (pos b) z) in
    record { sfits = omega (arith, neg_mag (nearest (suc a) b) k, f.sfits) }
rounded_fits (negsuc a) (negsuc zero) f z h =
    let k = nearest_le (suc a) 1 (size_pos (negsuc zero) z) in
    record { sfits = omega (arith, short_of_end a f.sfits h) }
rounded_fits (negsuc a) (negsuc (suc b)) f z h =
    let k = nearest_half (suc a) (suc (suc b)) (size_pos (negsuc (suc b)) z) (omega arith) in
    record { sfits = omega (arith, f.sfits) }

-- ---- the rounded quotient of cells

module _ (x y : ℤ) (f : SFits w32 x) (z : y ≡ pos 0 → ⊥) (h : End x y → ⊥) where
  pub rdiv_nearest : Nearest x y (rdiv x y)
  unfolding rdiv
  rdiv_nearest = subst⁻¹ (Nearest x y) (wrap_id (by_signs nearest x y) (rounded_fits x y f z h)) (rounded_nearest x y z)

  -- it is the only such number
  pub rdiv_only : (q : ℤ) → Nearest x y q → q ≡ rdiv x y
  rdiv_only q n = nearest_once x y q (rdiv x y) z n rdiv_nearest

  -- no whole number is nearer to the exact quotient, and where another is as near, this is the even one
  pub rdiv_no_nearer : (p : ℤ) → off x y (rdiv x y) ≤ off x y p
  rdiv_no_nearer p = no_nearer x y p (rdiv x y) rdiv_nearest

  pub rdiv_of_two : (p : ℤ) → (p ≡ rdiv x y → ⊥) → off x y p ≡ off x y (rdiv x y) → nat_abs (rdiv x y) % 2 ≡ 0
  rdiv_of_two p n e = tie_even x y p (rdiv x y) rdiv_nearest n e

-- "−2147483648 divided by −1 … gives −2147483648"
pub rdiv_end : rdiv (negsuc 2147483647) (negsuc 0) ≡ negsuc 2147483647
unfolding rdiv wrap by_signs nearest nearer even_of word value
rdiv_end = refl

-- ---- "Other quotients keep their values"

-- the nearest whole number of magnitudes as it was before, halves upward
pub halves_up : ℕ → ℕ → ℕ
halves_up a b = (2 * a + b) / (2 * b)

was : (a b k : ℕ) → 2 * (k * b) ≤ 2 * a + b → 2 * a + b < 2 * (k * b) + 2 * b → k ≡ halves_up a b
unfolding halves_up
was a b k l u =
    sym (div-eq_of_lt-le (2 * b) (subst⁻¹ (λ (n : ℕ). n ≤ 2 * a + b) (mul_left_comm k 2 b) l)
    (subst⁻¹ (λ (n : ℕ). 2 * a + b < n) (add-mul k 1 (2 * b) ∙ (λ i. mul_left_comm k 2 b i + one-mul (2 * b) i)) u))

nearest_kept : (a b : ℕ) → 0 < b → (2 * (a % b) ≡ b → ⊥) → nearest a b ≡ halves_up a b
nearest_kept a b h n =
    by_neighbour a b h (λ k. k ≡ halves_up a b) (λ l e. was a b (a / b) (omega (arith, div-add-mod' a b)) (omega (arith, div-add-mod' a b, n)))
    (λ l e. was a b (a / b + 1) (omega (arith, div-add-mod' a b, next a b h)) (omega (arith, div-add-mod' a b, next a b h, mod-lt a h)))

signs_alike : (f g : ℕ → ℕ → ℕ) (x y : ℤ) → f (nat_abs x) (nat_abs y) ≡ g (nat_abs x) (nat_abs y) → by_signs f x y ≡ by_signs g x y
unfolding by_signs
signs_alike f g (pos a) (pos b) e = ap pos e
signs_alike f g (pos a) (negsuc b) e = ap (λ (n : ℕ). neg_ℤ (pos n)) e
signs_alike f g (negsuc a) (pos b) e = ap (λ (n : ℕ). neg_ℤ (pos n)) e
signs_alike f g (negsuc a) (negsuc b) e = ap pos e

-- x over y is no half
pub rdiv_kept : (x y : ℤ) → (y ≡ pos 0 → ⊥) → (2 * (nat_abs x % nat_abs y) ≡ nat_abs y → ⊥) → rdiv x y ≡ wrap (by_signs halves_up x y)
unfolding rdiv
rdiv_kept x y z n = ap wrap (signs_alike nearest halves_up x y (nearest_kept (nat_abs x) (nat_abs y) (size_pos y z) n))
