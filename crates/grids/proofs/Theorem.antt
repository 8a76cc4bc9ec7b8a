-- Document 02, Point 9: a grid's cells in row order and back. Where each element goes, that every other cell is unchanged, and that "one after the other,
-- either way round, restores the cells".
use mathlib.Core.Path.{◌≡◌, ◌∙◌, ap}
use mathlib.Core.List.{List}
use Prim.Native.Nat.{ℕ, ◌+◌, ◌*◌, ◌<◌}
use native.Mathlib.Omega.{arith}
use lib.ListN.{length}
use lib.IntN.{ℤ}
use Rattle.syntax.proofs.Placing.{grid_inside}
use Rattle.grids.specs.Arrange.{Grid, Within, Other, by_rows, turned, by_columns, rearranged}
use Rattle.grids.proofs.Places.{source_at}
use Rattle.grids.proofs.Moved.{turned_within, turned_other, by_rows_at, by_rows_else, rearranged_back}

module _ (g : Grid) (f : ℕ → ℤ) where
  -- element (r, c), both from 0: from place r + c × m to place r × n + c
  pub by_rows_element : (r c : ℕ) → r < g.rows → c < g.columns → by_rows g f (g.first + (r * g.columns + c)) ≡ f (g.first + (r + c * g.rows))
  by_rows_element r c h k =
      by_rows_at g f (r * g.columns + c) (omega (arith, grid_inside c r g.columns g.rows k h))
      ∙ ap (λ (p : ℕ). f (g.first + p)) (source_at g.rows g.columns r c k)

  -- "every other cell unchanged"
  pub by_rows_other : (c : ℕ) → Other g c → by_rows g f c ≡ f c
  by_rows_other = by_rows_else g f

module _ (g : Grid) (f : ℕ → ℤ) where
  -- and back
  pub by_columns_element : (r c : ℕ) → r < g.rows → c < g.columns → by_columns g f (g.first + (r + c * g.rows)) ≡ f (g.first + (r * g.columns + c))
  unfolding by_columns
  by_columns_element r c h k =
      let e : r + c * g.rows ≡ c * g.rows + r = omega arith in
      let q : c + r * g.columns ≡ r * g.columns + c = omega arith in
      rw (e, ← q) (by_rows_element (turned g) f c r k h)

  pub by_columns_other : (c : ℕ) → Other g c → by_columns g f c ≡ f c
  unfolding by_columns
  by_columns_other c o = by_rows_other (turned g) f c (turned_other g c o)

-- "One after the other, either way round, restores the cells", where the grid's are among them
pub rows_then_columns : (g : Grid) (m : List ℤ) → Within (length m) g → rearranged by_columns g (rearranged by_rows g m) ≡ m
unfolding by_columns
rows_then_columns g m h = rearranged_back g m h

pub columns_then_rows : (g : Grid) (m : List ℤ) → Within (length m) g → rearranged by_rows g (rearranged by_columns g m) ≡ m
unfolding by_columns
columns_then_rows g m h = rearranged_back (turned g) m (turned_within (length m) g h)
