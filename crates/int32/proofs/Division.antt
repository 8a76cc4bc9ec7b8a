-- The laws of both divisions, and of the code of rdiv. Assumes nothing.
use Rattle.std.proofs.Common.{◌≡◌, ℕ, zero, suc, ◌+◌, ◌-◌, ◌/◌, ◌%◌, ◌^◌, ◌<◌, ◌≤◌, Bool, true, false, cond, not, T, ltb, ◌⊎◌, ℤ, pos, negsuc, neg_ℤ, nat_abs, sym, refl, ap, ◌∙◌, subst, inl, inr, le_of_suc-le-suc, arith, ltb→lt, nltb→le, w32, SFits, to_z, of_z, ne_eqb}
use native.Mathlib.Decide.{ℕ_discrete}
use mathlib.Core.Path.{subst⁻¹}
use lib.Signed.{mag}
use mir.ValLaws.{to_z-of_z}
use Rattle.std.specs.Prelude.{Some, None}
use Rattle.int32.specs.Integers.{word, value, wrap, by_signs, even_of, nearer, nearest, same, divided, rdiv}
use Rattle.int32.specs.SignWord.{sign_word}
use Rattle.int32.proofs.Laws.{wrap_fits, word_negation}

-- a number from its bits
pub from_bits : {z : ℤ} → SFits w32 z → (n : ℕ) → of_z w32 z ≡ n → z ≡ to_z w32 n
from_bits {z} f n e = sym (to_z-of_z w32 z f) ∙ ap (to_z w32) e

-- ---- the answer of a division, by f, at each test of the code

pub divided_zero : (f : ℤ → ℤ → ℤ) (x : ℤ) {y : ℤ} → SFits w32 y → of_z w32 y ≡ 0 → None ≡ divided f x y
unfolding divided same
divided_zero f x g e = ap (divided f x) (sym (from_bits g 0 e))

pub divided_value : (f : ℤ → ℤ → ℤ) (x y : ℤ) → (of_z w32 y ≡ 0 → ⊥) → Some (f x y) ≡ divided f x y
unfolding divided same
divided_value f x (pos n) h = ap (λ (t : Bool). cond t None (Some (f x (pos n)))) (sym (ne_eqb n 0 h))
divided_value f x (negsuc n) h = refl

-- the smallest number over -1
pub divided_end : (f : ℤ → ℤ → ℤ) → f (negsuc 2147483647) (negsuc 0) ≡ negsuc 2147483647 → {x y : ℤ} → SFits w32 x → SFits w32 y
    → of_z w32 x ≡ 2147483648 → of_z w32 y ≡ 4294967295 → Some (negsuc 2147483647) ≡ divided f x y
unfolding divided same
divided_end f h {x} {y} g k p q = let a : x ≡ negsuc 2147483647 = from_bits g 2147483648 p in let b : y ≡ negsuc 0 = from_bits k 4294967295 q in rw (a, b, h)

-- ---- the range

pub neg_mag : (q : ℕ) {a : ℕ} → q ≤ suc a → mag (neg_ℤ (pos q)) ≤ a
neg_mag zero h = omega arith
neg_mag (suc q) h = le_of_suc-le-suc h

-- ---- rounding

-- the even neighbour is even, and a neighbour
even_of_lem : (q : ℕ) → even_of q % 2 ≡ 0
unfolding even_of
even_of_lem q = omega arith

beside : (q : ℕ) → (even_of q ≡ q) ⊎ (even_of q ≡ q + 1)
unfolding even_of
beside q = elim (ℕ_discrete (q % 2) 0) [ yes e ↦ inl (omega arith) | no n ↦ inr (omega arith) ]

-- by the neighbour that is nearer; where both are as near, it is even
pub nearer_cases : (P : ℕ → Type 0) (q d e : ℕ) → (d ≤ e → (d ≡ e → q % 2 ≡ 0) → P q) → (e ≤ d → (d ≡ e → (q + 1) % 2 ≡ 0) → P (q + 1))
    → P (nearer q d e)
unfolding nearer
nearer_cases P q d e f g = go (ltb d e) (ltb→lt d e) (nltb→le d e) (ltb e d) (ltb→lt e d) (nltb→le e d)
  where
    half : d ≡ e → P (even_of q)
    half h = elim (beside q) [
      | inl t ↦ subst⁻¹ P t (f (omega arith) (λ _. ap (λ (n : ℕ). n % 2) (sym t) ∙ even_of_lem q))
      | inr t ↦ subst⁻¹ P t (g (omega arith) (λ _. ap (λ (n : ℕ). n % 2) (sym t) ∙ even_of_lem q))
    ]

    go : (s : Bool) → (T s → d < e) → (T (not s) → e ≤ d) → (t : Bool) → (T t → e < d) → (T (not t) → d ≤ e)
        → P (cond s q (cond t (q + 1) (even_of q)))
    go true l m t u v = f (omega (arith, l tt)) (λ h. absurd (omega (arith, l tt)))
    go false l m true u v = g (omega (arith, u tt)) (λ h. absurd (omega (arith, u tt)))
    go false l m false u v = half (omega (arith, m tt, v tt))

-- as the code finds it
module _ (a b : ℕ) where
  pub nearest_below : a % b < b - a % b → a / b ≡ nearest a b
  unfolding nearest
  nearest_below h = nearer_cases (λ k. a / b ≡ k) (a / b) (a % b) (b - a % b) (λ l e. refl) (λ l e. omega arith)

  pub nearest_above : b - a % b < a % b → a / b + 1 ≡ nearest a b
  unfolding nearest
  nearest_above h = nearer_cases (λ k. a / b + 1 ≡ k) (a / b) (a % b) (b - a % b) (λ l e. omega arith) (λ l e. refl)

  pub nearest_tie : b - a % b ≤ a % b → a % b ≤ b - a % b → a / b + a / b % 2 ≡ nearest a b
  unfolding nearest
  nearest_tie g h =
      nearer_cases (λ k. a / b + a / b % 2 ≡ k) (a / b) (a % b) (b - a % b) (λ l e. omega (arith, e (omega arith))) (λ l e. omega (arith, e (omega arith)))

-- ---- signs on words

once : (m : ℕ) → m < 2 ^ 32 → (2 ^ 32 - m % 2 ^ 32) % 2 ^ 32 ≡ (2 ^ 32 - m) % 2 ^ 32
once m h = omega arith

pub sign_word_lem : (x : ℤ) → SFits w32 x → sign_word x (word x) ≡ nat_abs x
unfolding sign_word word
sign_word_lem (pos n) f = omega (arith, f.sfits)
sign_word_lem (negsuc n) f = omega (arith, f.sfits)

pub sign_signs : (f : ℕ → ℕ → ℕ) (x y : ℤ) → f (nat_abs x) (nat_abs y) < 2 ^ 32 → sign_word x (sign_word y (f (nat_abs x) (nat_abs y))) ≡ word (by_signs f x y)
unfolding sign_word word by_signs
sign_signs f (pos a) (pos b) h = omega arith
sign_signs f (pos a) (negsuc b) h = sym (word_negation (pos (f a (suc b))) ∙ once (f a (suc b)) h)
sign_signs f (negsuc a) (pos b) h = sym (word_negation (pos (f (suc a) b)) ∙ once (f (suc a) b) h)
sign_signs f (negsuc a) (negsuc b) h = omega arith

-- the rounded quotient from the words that the code computes
pub rdiv_words : (x y : ℤ) {a b m r s : ℕ} → a ≡ nat_abs x → b ≡ nat_abs y → m ≡ nearest a b → m < 2 ^ 32 → r ≡ sign_word y m → s ≡ sign_word x r
    → value s ≡ rdiv x y
unfolding rdiv wrap
rdiv_words x y {a} {b} {m} {r} {s} p q e h u v =
    ap value (v ∙ ap (sign_word x) (u ∙ ap (sign_word y) n) ∙ sign_signs nearest x y (subst (λ (k : ℕ). k < 2 ^ 32) n h))
  where
    n : m ≡ nearest (nat_abs x) (nat_abs y)
    n = e ∙ (λ i. nearest (p i) (q i))

pub rdiv_fits : (x y : ℤ) → SFits w32 (rdiv x y)
unfolding rdiv
rdiv_fits x y = wrap_fits (by_signs nearest x y)
