-- Places of a grid's cells: what stands at a place in row order, and where it comes from.
use mathlib.Core.Path.{◌≡◌, refl, ◌∙◌, ap}
use mathlib.Core.Bool.{Bool, true, false}
use mathlib.Core.Logic.{inl, inr}
use Prim.Native.Nat.{ℕ, zero, suc, ◌+◌, ◌-◌, ◌*◌, ◌/◌, ◌%◌, ◌<◌}
use native.Mathlib.Nat.{div-eq_of_lt, mod-eq_of_lt, mul-add-div_right, mul-add-mod_self_right, div-add-mod', mod-lt, div-lt_iff_lt-mul}
use native.Mathlib.Omega.{arith}
use lib.Dec.{leb, ltb}
use borrow.Author.Tests.{leb-true, leb-false, ltb-true, ltb-false}
use Rattle.syntax.proofs.Placing.{grid_inside}
use Rattle.grids.specs.Arrange.{Grid, Other, source}

-- what stands at r × n + c comes from r + c × m
pub source_at : (m n r c : ℕ) → c < n → source m n (r * n + c) ≡ r + c * m
source_at m n r c h =
    let a : (r * n + c) / n ≡ r = mul-add-div_right (omega arith) r c ∙ ap (◌+◌ r) (div-eq_of_lt h) ∙ omega arith in
    let b : (r * n + c) % n ≡ c = mul-add-mod_self_right r n c ∙ mod-eq_of_lt h in
    rw (a, b)

-- the row p / n and the column p % n of a place
pub some_columns : (m n p : ℕ) → p < m * n → 0 < n
some_columns m zero p h = absurd (omega arith)
some_columns m (suc n) p h = omega arith

row_in : (m n p : ℕ) → p < m * n → p / n < m
row_in m n p h = (div-lt_iff_lt-mul (some_columns m n p h)).1 h

pub source_inside : (m n p : ℕ) → p < m * n → source m n p < m * n
source_inside m n p h = grid_inside (p / n) (p % n) m n (row_in m n p h) (mod-lt p (some_columns m n p h))

pub source_back : (m n p : ℕ) → p < m * n → source n m (source m n p) ≡ p
source_back m n p h =
    let e : source m n p ≡ p % n * m + p / n = omega arith in
    ap (source n m) e ∙ source_at n m (p % n) (p / n) (row_in m n p h) ∙ omega (arith, div-add-mod' p n)

-- ---- a cell of the grid, or another

pub data Where (g : Grid) (c : ℕ) : Type 0 where
  inside : (p : ℕ) → p < g.rows * g.columns → c ≡ g.first + p → Where g c
  outside : Other g c → Where g c

pub where_is : (g : Grid) (c : ℕ) → Where g c
where_is g c = go (leb g.first c) (ltb c (g.first + g.rows * g.columns)) refl refl
  where
    go : (a b : Bool) → leb g.first c ≡ a → ltb c (g.first + g.rows * g.columns) ≡ b → Where g c
    go true true h k = inside (c - g.first) (omega (arith, leb-true g.first c h, ltb-true c (g.first + g.rows * g.columns) k)) (omega (arith, leb-true g.first c h))
    go true false h k = outside (inr (ltb-false c (g.first + g.rows * g.columns) k))
    go false b h k = outside (inl (leb-false g.first c h))
