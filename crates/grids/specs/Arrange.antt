-- RULES 9.9 (document 02, Point 9): "a rearrangement of one named grid's cells into row order, and its inverse, every other cell unchanged".
use Rattle.std.specs.Prelude.{cond, List, [], ◌∷◌, map, ◌⊎◌, ℕ, ◌+◌, ◌-◌, ◌*◌, ◌/◌, ◌%◌, ◌≤◌, ◌<◌, leb, ltb, length, ℤ}
use Rattle.std.proofs.Math.Option.{Option, none, some}
use Rattle.rules.specs.Cells.{cell_of, listed}
use Rattle.syntax.specs.Bytes.{lower}
use Rattle.syntax.specs.Known.{Entry, find}

-- a grid's first cell and its two extents
pub record Grid : Type 0 where
  pub first : ℕ
  pub rows : ℕ
  pub columns : ℕ

-- its cells are among n
abbrev pub Within : ℕ → Grid → Type 0
Within n g = g.first + g.rows * g.columns ≤ n

-- a cell that is not of the grid
abbrev pub Other : Grid → ℕ → Type 0
Other g c = (c < g.first) ⊎ (g.first + g.rows * g.columns ≤ c)

-- Element (r, c), both from 0, of a grid of m × n cells stands at place r + c × m of its cells, "first subscript fastest", and at place r × n + c when
-- they are in row order. What stands at place p in row order stands in element order at place
abbrev pub source : ℕ → ℕ → ℕ → ℕ
source m n p = p / n + p % n * m

-- the cells f with the grid's in row order, "every other cell unchanged"
unfoldable pub by_rows : Grid → (ℕ → ℤ) → ℕ → ℤ
by_rows g f c =
    cond (leb g.first c)
    (cond (ltb c (g.first + g.rows * g.columns)) (f (g.first + source g.rows g.columns (c - g.first))) (f c))
    (f c)

-- "and its inverse": the same with rows for columns
abbrev pub turned : Grid → Grid
turned g = record { first = g.first; rows = g.columns; columns = g.rows }

unfoldable pub by_columns : Grid → (ℕ → ℤ) → ℕ → ℤ
by_columns g = by_rows (turned g)

-- cells as a list
abbrev pub rearranged : (Grid → (ℕ → ℤ) → ℕ → ℤ) → Grid → List ℤ → List ℤ
rearranged f g m = listed (length m) (f g (cell_of m))

-- the grid that is named: "the name's bytes alone, upper case read as lower"
abbrev pub grid_of : ℕ → List ℕ → Option Grid
grid_of first [] = none
grid_of first (n ∷ []) = none
grid_of first (m ∷ n ∷ ns) = some (record { first = first; rows = m; columns = n })

unfoldable pub grid_named : List Entry → List ℕ → Option Grid
grid_named t w = let e = find (map lower w) t in grid_of e.first e.extents
