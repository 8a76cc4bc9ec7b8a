-- The bound of the words that a run needs.
use Prim.Native.Nat.{ℕ, ◌+◌, ◌*◌, ◌≤◌}
use native.Mathlib.Nat.{mul-le-mul}
use native.Mathlib.Omega.{arith}

pub needed_most : (n p : ℕ) → n ≤ 4096 → p ≤ 8 → n * (4 + 8 * p) ≤ 4096 * 68
needed_most n p a b = let q : 4 + 8 * p ≤ 68 = omega arith in mul-le-mul a q
