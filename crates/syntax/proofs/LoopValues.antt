-- The values of the loop's variable: m + index fits 32 bits for every iteration, since both bounds of the loop do.
use mathlib.Core.Path.{◌≡◌, refl}
use Prim.Native.Nat.{ℕ, zero, suc, ◌+◌, ◌-◌, max, ◌≤◌, ◌<◌}
use native.Mathlib.Omega.{arith}
use lib.IntN.{ℤ, pos, negsuc, nat_abs, sub_ℕ, ◌+ℤ◌}
use mir.Syntax.{w32}
use mir.Val.{SFits}
use Rattle.int32.proofs.Laws.{sub_cases}
use Rattle.syntax.specs.Grammar.{Lead, bare, plus, minus}
use Rattle.syntax.specs.Known.{signed, natural, iterations}

-- a literal with its sign
pub signed_size : (l : Lead) (n : ℕ) → nat_abs (signed l n) ≡ n
signed_size bare n = refl
signed_size plus n = refl
signed_size minus zero = refl
signed_size minus (suc n) = refl

pub small_fits : (z : ℤ) → nat_abs z ≤ 2147483647 → SFits w32 z
small_fits (pos n) h = record { sfits = omega arith }
small_fits (negsuc n) h = record { sfits = omega arith }

-- ---- how many iterations

natural_below : (k : ℕ) → natural (negsuc k +ℤ pos 1) ≡ 0
natural_below k = sub_cases (λ z. natural z ≡ 0) 1 (suc k) (λ _. refl) (λ _. omega arith)

natural_sub : (x y : ℕ) → natural (sub_ℕ x y +ℤ pos 1) ≡ suc x - y
natural_sub x y = sub_cases (λ z. natural (z +ℤ pos 1) ≡ suc x - y) x y (λ h. omega (arith, natural_below (y - suc x))) (λ h. omega arith)

-- by numbers raised so far that none is below 0
abbrev pub raised : ℕ → ℤ → ℕ
raised b (pos n) = b + n
raised b (negsuc n) = b - suc n

pub iterations_raised : (b : ℕ) (m n : ℤ) → nat_abs m ≤ b → nat_abs n ≤ b → iterations m n ≡ raised b n + 1 - raised b m
iterations_raised b (pos zero) (pos n) h k = omega arith
iterations_raised b (pos (suc m)) (pos n) h k = omega (arith, natural_sub n (suc m))
iterations_raised b (pos zero) (negsuc n) h k = omega (arith, natural_sub 0 (suc n))
iterations_raised b (pos (suc m)) (negsuc n) h k = omega (arith, natural_below (suc (n + m)))
iterations_raised b (negsuc m) (pos n) h k = omega arith
iterations_raised b (negsuc m) (negsuc n) h k = omega (arith, natural_sub (suc m) (suc n))

-- m + index lies between the bounds
pub iteration_size : (i : ℕ) (m n : ℤ) → i < iterations m n → nat_abs (m +ℤ pos i) ≤ max (nat_abs m) (nat_abs n)
iteration_size i (pos zero) (pos b) h = omega arith
iteration_size i (pos (suc a)) (pos b) h = omega (arith, natural_sub b (suc a))
iteration_size i (pos zero) (negsuc b) h = omega (arith, natural_sub 0 (suc b))
iteration_size i (pos (suc a)) (negsuc b) h = omega (arith, natural_below (suc (b + a)))
iteration_size i (negsuc a) (pos b) h = sub_cases (λ z. nat_abs z ≤ max (suc a) b) i (suc a) (λ k. omega arith) (λ k. omega arith)
iteration_size i (negsuc a) (negsuc b) h =
    sub_cases (λ z. nat_abs z ≤ max (suc a) (suc b)) i (suc a) (λ k. omega arith) (λ k. omega (arith, natural_sub (suc a) (suc b)))

pub iteration_fits : (i : ℕ) (l k : Lead) (m n : ℕ) → m ≤ 2147483647 → n ≤ 2147483647 → i < iterations (signed l m) (signed k n)
    → SFits w32 (signed l m +ℤ pos i)
iteration_fits i l k m n p q h =
    small_fits (signed l m +ℤ pos i) (omega (arith, iteration_size i (signed l m) (signed k n) h, signed_size l m, signed_size k n))
