-- A subscript inside its bound, and the two of a grid: what holds at each of the cells, and of the fault, holds of the reference.
use mathlib.Core.Path.{◌≡◌, refl}
use mathlib.Core.Bool.{Bool, true, false, ◌&&◌}
use Prim.Native.Nat.{ℕ, ◌+◌, ◌-◌, ◌*◌, ◌<◌}
use native.Mathlib.Nat.{mul-le-mul_right}
use native.Mathlib.Omega.{arith}
use lib.Dec.{leb}
use lib.IntN.{ℤ, pos, negsuc}
use borrow.Author.Tests.{leb-true}
use Rattle.rules.specs.Loop.{Act, fault}
use Rattle.syntax.specs.Bytes.{choose}
use Rattle.syntax.specs.Meaning.{located, in_grid}
use Rattle.syntax.proofs.Spelling.{both_true}
use Rattle.syntax.proofs.TestLaws.{choose_each}

-- row a and column b of m × n cells, "first subscript fastest"
pub grid_inside : (a b m n : ℕ) → a < m → b < n → a + b * m < m * n
grid_inside a b m n h k = omega (arith, mul-le-mul_right m k)

-- a subscript that passes its test
inside : (n z : ℕ) → leb 1 n && leb n z ≡ true → n - 1 < z
inside n z e = let (p, q) = both_true (leb 1 n) (leb n z) e in omega (arith, leb-true 1 n p, leb-true n z q)

module _ (P : Act → Type 0) (line : ℕ) (outside : P (fault 9 line)) where
  pub located_among : (a z : ℕ) (i : ℤ) (k : ℕ → Act) → ((d : ℕ) → d < z → P (k (a + d))) → P (located line a z i k)
  unfolding located
  located_among a z (pos n) k q = choose_each P (leb 1 n && leb n z) _ _ (λ e. q (n - 1) (inside n z e)) (λ _. outside)
  located_among a z (negsuc n) k q = outside

  pub in_grid_among : (a m n : ℕ) (i j : ℤ) (k : ℕ → Act) → ((d : ℕ) → d < m * n → P (k (a + d))) → P (in_grid line a m n i j k)
  unfolding in_grid
  in_grid_among a m n i j k q = located_among a m i _ (λ b p. located_among 0 n j _ (λ c r.
      let e : a + b + (0 + c) * m ≡ a + (b + c * m) = omega arith in
      rw e (q (b + c * m) (grid_inside b c m n p r))))

-- the same subscripts from cell a on and from cell b on
pub located_alike : (line a b z : ℕ) (i : ℤ) (f g : ℕ → Act) → ((d : ℕ) → d < z → f (a + d) ≡ g (b + d)) → located line a z i f ≡ located line b z i g
unfolding located
located_alike line a b z (pos n) f g h = go (leb 1 n && leb n z) refl
  where
    go : (c : Bool) → leb 1 n && leb n z ≡ c → choose c (λ _. f (a + (n - 1))) (λ _. fault 9 line) ≡ choose c (λ _. g (b + (n - 1))) (λ _. fault 9 line)
    go true e = h (n - 1) (inside n z e)
    go false e = refl
located_alike line a b z (negsuc n) f g h = refl

pub in_grid_alike : (line a b m n : ℕ) (i j : ℤ) (f g : ℕ → Act) → ((d : ℕ) → d < m * n → f (a + d) ≡ g (b + d))
    → in_grid line a m n i j f ≡ in_grid line b m n i j g
unfolding in_grid
in_grid_alike line a b m n i j f g h = located_alike line a b m i _ _ (λ c p. located_alike line 0 0 n j _ _ (λ d q.
    let e : a + c + (0 + d) * m ≡ a + (c + d * m) = omega arith in
    let e' : b + c + (0 + d) * m ≡ b + (c + d * m) = omega arith in
    rw (e, e') (h (c + d * m) (grid_inside c d m n p q))))
