-- The cells at the front of a longer list, as code lends them.
use mathlib.Core.Path.{◌≡◌, ◌∙◌, ap}
use mathlib.Core.List.{List}
use Prim.Native.Nat.{ℕ, ◌-◌}
use native.Mathlib.Omega.{arith}
use lib.ListN.{length, take, drop}
use lib.IntN.{ℤ}

pub front_is : (own M : List ℤ) → take (length M) own ≡ M → take (length M - 0) (drop 0 own) ≡ M
front_is own M e = let z : length M - 0 ≡ length M = omega arith in ap (λ (n : ℕ). take n own) z ∙ e
