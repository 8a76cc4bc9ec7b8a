-- The laws of the cell arithmetic. Assumes nothing.
use Rattle.std.proofs.Common.{◌≡◌, ℕ, zero, suc, ◌+◌, ◌-◌, ◌*◌, ◌/◌, ◌%◌, ◌^◌, ◌<◌, ◌≤◌, Bool, true, false, cond, not, T, ltb, ℤ, pos, negsuc, ◌+ℤ◌, ◌-ℤ◌, ◌*ℤ◌, neg_ℤ, sym, refl, ap, ◌∙◌, mod-lt, mul_assoc, mul_comm, add-mul, mul-le-mul_left, mul-one, mul_right_comm, arith, lit<, ltb→lt, nltb→le, w32, SFits, to_z, of_z}
use native.Mathlib.Nat.{mod-add-div', add-mul-mod_self_right, mul-sub}
use lib.IntN.{sub_ℕ, +ℤ_comm, +ℤ_assoc, +ℤ_idl}
use mir.Syntax.{Width}
use mir.ValLaws.{to_z-of_z}
use Rattle.std.specs.Int.{int_wrap, int_wrapping_add, int_wrapping_sub, int_wrapping_mul, int_wrapping_neg}
use Rattle.std.proofs.lemmas.Int.{wrapping_add_is, wrapping_sub_is, wrapping_mul_is, wrapping_neg_is}
use Rattle.int32.specs.Integers.{word, value, wrap, sum, difference, product, negation, greater, larger}

-- ---- by the test that a definition makes

pub sub_cases : (P : ℤ → Type 0) (a b : ℕ) → (a < b → P (negsuc (b - suc a))) → (b ≤ a → P (pos (a - b))) → P (sub_ℕ a b)
sub_cases P a b f g = go (ltb a b) (ltb→lt a b) (nltb→le a b)
  where
    go : (t : Bool) → (T t → a < b) → (T (not t) → b ≤ a) → P (cond t (negsuc (b - suc a)) (pos (a - b)))
    go true y n = f (y tt)
    go false y n = g (n tt)

pub value_cases : (P : ℤ → Type 0) (n : ℕ) → (n < 2 ^ 31 → P (pos n)) → (2 ^ 31 ≤ n → P (negsuc (2 ^ 32 - suc n))) → P (value n)
unfolding value
value_cases P n f g = go (ltb n (2 ^ 31)) (ltb→lt n (2 ^ 31)) (nltb→le n (2 ^ 31))
  where
    go : (t : Bool) → (T t → n < 2 ^ 31) → (T (not t) → 2 ^ 31 ≤ n) → P (cond t (pos n) (negsuc (2 ^ 32 - suc n)))
    go true y h = f (y tt)
    go false y h = g (h tt)

-- ---- products modulo m

mul_mod_l : (a b m : ℕ) → a * b % m ≡ a % m * b % m
mul_mod_l a b m =
    ap (λ (x : ℕ). x * b % m) (sym (mod-add-div' a m))
    ∙ ap (λ (x : ℕ). x % m) (add-mul (a % m) (a / m * m) b ∙ ap (λ (x : ℕ). a % m * b + x) (mul_right_comm (a / m) m b))
    ∙ add-mul-mod_self_right (a % m * b) (a / m * b) m

mul_mod_r : (a b m : ℕ) → a * b % m ≡ a * (b % m) % m
mul_mod_r a b m = ap (λ (x : ℕ). x % m) (mul_comm a b) ∙ mul_mod_l b a m ∙ ap (λ (x : ℕ). x % m) (mul_comm (b % m) a)

mul_mod : (a b m : ℕ) → a * b % m ≡ a % m * (b % m) % m
mul_mod a b m = mul_mod_l a b m ∙ mul_mod_r (a % m) b m

-- a factor's negative
mul_neg : (u v : ℕ) → v ≤ 2 ^ 32 → u * ((2 ^ 32 - v) % 2 ^ 32) % 2 ^ 32 ≡ (2 ^ 32 - u * v % 2 ^ 32) % 2 ^ 32
mul_neg u v h = sym (mul_mod_r u (2 ^ 32 - v) (2 ^ 32)) ∙ ap (λ (x : ℕ). x % 2 ^ 32) (mul-sub u (2 ^ 32) v) ∙ less (u * v) (mul-le-mul_left u h)
  where
    less : (p : ℕ) → p ≤ u * 2 ^ 32 → (u * 2 ^ 32 - p) % 2 ^ 32 ≡ (2 ^ 32 - p % 2 ^ 32) % 2 ^ 32
    less p k = omega arith

-- ---- the word of a result

pub word_lt : (z : ℤ) → word z < 2 ^ 32
unfolding word
word_lt (pos n) = omega arith
word_lt (negsuc n) = omega arith

pub word_sum : (x y : ℤ) → word (x +ℤ y) ≡ (word x + word y) % 2 ^ 32
unfolding word
word_sum (pos a) (pos b) = omega arith
word_sum (pos a) (negsuc b) = sub_cases (λ z. word z ≡ (word (pos a) + word (negsuc b)) % 2 ^ 32) a (suc b) (λ h. omega arith) (λ h. omega arith)
word_sum (negsuc a) (pos b) = sub_cases (λ z. word z ≡ (word (negsuc a) + word (pos b)) % 2 ^ 32) b (suc a) (λ h. omega arith) (λ h. omega arith)
word_sum (negsuc a) (negsuc b) = omega arith

pub word_negation : (z : ℤ) → word (neg_ℤ z) ≡ (2 ^ 32 - word z) % 2 ^ 32
unfolding word
word_negation (pos zero) = refl
word_negation (pos (suc n)) = omega arith
word_negation (negsuc n) = omega arith

-- the word of -(b + 1) from that of b + 1
word_negsuc : (b : ℕ) → word (negsuc b) ≡ (2 ^ 32 - suc b % 2 ^ 32) % 2 ^ 32
unfolding word
word_negsuc b = omega arith

word_mixed : (a b : ℕ) → word (neg_ℤ (pos (a * suc b))) ≡ word (pos a) * word (negsuc b) % 2 ^ 32
unfolding word
word_mixed a b =
    word_negation (pos (a * suc b))
    ∙ ap (λ (x : ℕ). (2 ^ 32 - x) % 2 ^ 32) (mul_mod a (suc b) (2 ^ 32))
    ∙ sym (mul_neg (a % 2 ^ 32) (suc b % 2 ^ 32) (omega arith))
    ∙ ap (λ (x : ℕ). a % 2 ^ 32 * x % 2 ^ 32) (sym (word_negsuc b))

twice : (p : ℕ) → p < 2 ^ 32 → p ≡ (2 ^ 32 - (2 ^ 32 - p) % 2 ^ 32) % 2 ^ 32
twice p h = omega arith

word_mixed' : (a b : ℕ) → word (neg_ℤ (pos (suc a * b))) ≡ word (negsuc a) * word (pos b) % 2 ^ 32
word_mixed' a b =
    ap (λ (n : ℕ). word (neg_ℤ (pos n))) (mul_comm (suc a) b)
    ∙ word_mixed b a
    ∙ ap (λ (x : ℕ). x % 2 ^ 32) (mul_comm (word (pos b)) (word (negsuc a)))

pub word_product : (x y : ℤ) → word (x *ℤ y) ≡ word x * word y % 2 ^ 32
unfolding word
word_product (pos a) (pos b) = mul_mod a b (2 ^ 32)
word_product (pos a) (negsuc b) = word_mixed a b
word_product (negsuc a) (pos b) = word_mixed' a b
word_product (negsuc a) (negsuc b) =
    twice (suc a * suc b % 2 ^ 32) (mod-lt (suc a * suc b) (lit< tt))
    ∙ ap (λ (x : ℕ). (2 ^ 32 - x) % 2 ^ 32) (sym (word_negation (pos (suc a * suc b))) ∙ word_mixed' a (suc b))
    ∙ sym (mul_neg (word (negsuc a)) (suc b % 2 ^ 32) (omega arith))
    ∙ ap (λ (x : ℕ). word (negsuc a) * x % 2 ^ 32) (sym (word_negsuc b))

-- ---- words and values are inverse

pub word_value : (n : ℕ) → n < 2 ^ 32 → word (value n) ≡ n
unfolding word
word_value n h = value_cases (λ z. word z ≡ n) n (λ k. omega arith) (λ k. omega arith)

pub value_fits : (n : ℕ) → n < 2 ^ 32 → SFits w32 (value n)
value_fits n h = value_cases (SFits w32) n (λ k. omega arith) (λ k. omega arith)

pub word_of_z : (z : ℤ) → SFits w32 z → word z ≡ of_z w32 z
unfolding word
word_of_z (pos n) f = omega arith
word_of_z (negsuc n) f = omega arith

pub value_to_z : (n : ℕ) → value n ≡ to_z w32 n
unfolding value
value_to_z n = go (ltb n (2 ^ 31))
  where
    go : (t : Bool) → cond t (pos n) (negsuc (2 ^ 32 - suc n)) ≡ mir.Val.sel t (pos n) (negsuc (2 ^ 32 - suc n))
    go true = refl
    go false = refl

-- a number in the range is left as it is
pub wrap_id : (z : ℤ) → SFits w32 z → wrap z ≡ z
unfolding wrap
wrap_id z f = ap value (word_of_z z f) ∙ value_to_z (of_z w32 z) ∙ to_z-of_z w32 z f

pub wrap_fits : (z : ℤ) → SFits w32 (wrap z)
unfolding wrap
wrap_fits z = value_fits (word z) (word_lt z)

pub word_wrap : (z : ℤ) → word (wrap z) ≡ word z
unfolding wrap
word_wrap z = word_value (word z) (word_lt z)

-- ---- the wrapped sum

-- a summand may be wrapped before
pub wrap_sum_l : (x y : ℤ) → wrap (wrap x +ℤ y) ≡ wrap (x +ℤ y)
unfolding wrap
wrap_sum_l x y = ap value (word_sum (wrap x) y ∙ ap (λ (n : ℕ). (n + word y) % 2 ^ 32) (word_wrap x) ∙ sym (word_sum x y))

pub sum_comm : (x y : ℤ) → sum x y ≡ sum y x
unfolding sum
sum_comm x y = ap wrap (+ℤ_comm x y)

pub sum_assoc : (x y z : ℤ) → sum (sum x y) z ≡ sum x (sum y z)
unfolding sum
sum_assoc x y z =
    wrap_sum_l (x +ℤ y) z
    ∙ ap wrap (+ℤ_assoc x y z ∙ +ℤ_comm x (y +ℤ z))
    ∙ sym (wrap_sum_l (y +ℤ z) x)
    ∙ ap wrap (+ℤ_comm (wrap (y +ℤ z)) x)

pub sum_zero : (x : ℤ) → SFits w32 x → sum (pos 0) x ≡ x
unfolding sum
sum_zero x f = ap wrap (+ℤ_idl x) ∙ wrap_id x f

pub sum_fits : (x y : ℤ) → SFits w32 (sum x y)
unfolding sum
sum_fits x y = wrap_fits (x +ℤ y)

-- ---- the library's operations on cells

wraps_alike : (z : ℤ) → int_wrap w32 z ≡ wrap z
unfolding wrap word int_wrap
wraps_alike (pos n) = sym (value_to_z (n % 2 ^ 32))
wraps_alike (negsuc n) = ap (to_z w32) (less n) ∙ sym (value_to_z (2 ^ 32 - suc (n % 2 ^ 32)))
  where
    less : (n : ℕ) → 2 ^ 32 - 1 - n % 2 ^ 32 ≡ 2 ^ 32 - suc (n % 2 ^ 32)
    less n = omega arith

module _ (x y : ℤ) (f : SFits w32 x) (g : SFits w32 y) where
  pub sum_wraps : int_wrapping_add w32 x y ≡ sum x y
  unfolding sum
  sum_wraps = wrapping_add_is w32 x y f g ∙ wraps_alike (x +ℤ y)

  pub difference_wraps : int_wrapping_sub w32 x y ≡ difference x y
  unfolding difference
  difference_wraps = wrapping_sub_is w32 x y f g ∙ wraps_alike (x -ℤ y)

  pub product_wraps : int_wrapping_mul w32 x y ≡ product x y
  unfolding product
  product_wraps = wrapping_mul_is w32 x y f g ∙ wraps_alike (x *ℤ y)

pub negation_wraps : (x : ℤ) → SFits w32 x → int_wrapping_neg w32 x ≡ negation x
unfolding negation
negation_wraps x f = wrapping_neg_is w32 x f ∙ wraps_alike (neg_ℤ x)

-- ---- differences

-- a difference is the sum with the negation
pub difference_sum : (x y : ℤ) → difference x y ≡ sum x (negation y)
unfolding difference negation sum
difference_sum x y = ap wrap (+ℤ_comm x (neg_ℤ y)) ∙ sym (wrap_sum_l (neg_ℤ y) x) ∙ ap wrap (+ℤ_comm (wrap (neg_ℤ y)) x)

pub sum_difference : (x y z : ℤ) → difference (sum x y) z ≡ sum x (difference y z)
sum_difference x y z = difference_sum (sum x y) z ∙ sum_assoc x y (negation z) ∙ ap (sum x) (sym (difference_sum y z))

pub difference_fits : (x y : ℤ) → SFits w32 (difference x y)
unfolding difference
difference_fits x y = wrap_fits (x -ℤ y)

pub product_fits : (x y : ℤ) → SFits w32 (product x y)
unfolding product
product_fits x y = wrap_fits (x *ℤ y)

pub negation_fits : (x : ℤ) → SFits w32 (negation x)
unfolding negation
negation_fits x = wrap_fits (neg_ℤ x)

pub landed : {w : Width} {r z : ℤ} → r ≡ z → SFits w z → to_z w (of_z w r) ≡ z
landed {w} {r} {z} e f = ap (λ (v : ℤ). to_z w (of_z w v)) e ∙ to_z-of_z w z f

-- the conversions are inverse: `word_value`, and
pub value_word : (z : ℤ) → SFits w32 z → value (word z) ≡ z
unfolding wrap
value_word z f = wrap_id z f

pub sum_zero_r : (x : ℤ) → SFits w32 x → sum x (pos 0) ≡ x
sum_zero_r x f = sum_comm x (pos 0) ∙ sum_zero x f

-- ---- the wrapped product

product_word : (x y : ℤ) → product x y ≡ value (word x * word y % 2 ^ 32)
unfolding product wrap
product_word x y = ap value (word_product x y)

word_of_product : (x y : ℤ) → word (product x y) ≡ word x * word y % 2 ^ 32
unfolding product
word_of_product x y = word_wrap (x *ℤ y) ∙ word_product x y

pub product_comm : (x y : ℤ) → product x y ≡ product y x
product_comm x y = product_word x y ∙ ap (λ (n : ℕ). value (n % 2 ^ 32)) (mul_comm (word x) (word y)) ∙ sym (product_word y x)

pub product_assoc : (x y z : ℤ) → product (product x y) z ≡ product x (product y z)
product_assoc x y z =
    product_word (product x y) z
    ∙ ap (λ (n : ℕ). value (n * word z % 2 ^ 32)) (word_of_product x y)
    ∙ ap value (sym (mul_mod_l (word x * word y) (word z) (2 ^ 32)) ∙ ap (λ (n : ℕ). n % 2 ^ 32) (mul_assoc (word x) (word y) (word z))
    ∙ mul_mod_r (word x) (word y * word z) (2 ^ 32))
    ∙ ap (λ (n : ℕ). value (word x * n % 2 ^ 32)) (sym (word_of_product y z))
    ∙ sym (product_word x (product y z))

pub product_one_r : (x : ℤ) → SFits w32 x → product x (pos 1) ≡ x
unfolding word
product_one_r x f =
    product_word x (pos 1) ∙ ap (λ (n : ℕ). value (n % 2 ^ 32)) (mul-one (word x)) ∙ ap value (small (word x) (word_lt x)) ∙ value_word x f
  where
    small : (n : ℕ) → n < 2 ^ 32 → n % 2 ^ 32 ≡ n
    small n h = omega arith

-- ---- the larger of two

greater_comm : (x y : ℤ) → greater x y ≡ greater y x
unfolding greater
greater_comm (pos a) (pos b) = ap pos (omega arith)
greater_comm (pos a) (negsuc b) = refl
greater_comm (negsuc a) (pos b) = refl
greater_comm (negsuc a) (negsuc b) = ap negsuc (omega arith)

greater_assoc : (x y z : ℤ) → greater (greater x y) z ≡ greater x (greater y z)
unfolding greater
greater_assoc (pos a) (pos b) (pos c) = ap pos (omega arith)
greater_assoc (pos a) (pos b) (negsuc c) = refl
greater_assoc (pos a) (negsuc b) (pos c) = refl
greater_assoc (pos a) (negsuc b) (negsuc c) = refl
greater_assoc (negsuc a) (pos b) (pos c) = refl
greater_assoc (negsuc a) (pos b) (negsuc c) = refl
greater_assoc (negsuc a) (negsuc b) (pos c) = refl
greater_assoc (negsuc a) (negsuc b) (negsuc c) = ap negsuc (omega arith)

greater_fits : (x y : ℤ) → SFits w32 x → SFits w32 y → SFits w32 (greater x y)
unfolding greater
greater_fits (pos a) (pos b) f g = record { sfits = omega (arith, f.sfits, g.sfits) }
greater_fits (pos a) (negsuc b) f g = f
greater_fits (negsuc a) (pos b) f g = g
greater_fits (negsuc a) (negsuc b) f g = record { sfits = omega (arith, f.sfits, g.sfits) }

greater_least : (x : ℤ) → SFits w32 x → greater x (negsuc 2147483647) ≡ x
unfolding greater
greater_least (pos a) f = refl
greater_least (negsuc a) f = ap negsuc (omega (arith, f.sfits))

-- of numbers in the range
pub larger_greater : (x y : ℤ) → SFits w32 x → SFits w32 y → larger x y ≡ greater x y
unfolding larger
larger_greater x y f g = λ i. greater (wrap_id x f i) (wrap_id y g i)

pub larger_fits : (x y : ℤ) → SFits w32 (larger x y)
unfolding larger
larger_fits x y = greater_fits (wrap x) (wrap y) (wrap_fits x) (wrap_fits y)

pub larger_comm : (x y : ℤ) → larger x y ≡ larger y x
unfolding larger
larger_comm x y = greater_comm (wrap x) (wrap y)

pub larger_assoc : (x y z : ℤ) → larger (larger x y) z ≡ larger x (larger y z)
unfolding larger
larger_assoc x y z =
    ap (λ (u : ℤ). greater u (wrap z)) (wrap_id (larger x y) (larger_fits x y))
    ∙ greater_assoc (wrap x) (wrap y) (wrap z)
    ∙ ap (greater (wrap x)) (sym (wrap_id (larger y z) (larger_fits y z)))

pub larger_least_r : (x : ℤ) → SFits w32 x → larger x (negsuc 2147483647) ≡ x
larger_least_r x f = larger_greater x (negsuc 2147483647) f (record { sfits = omega arith }) ∙ greater_least x f
