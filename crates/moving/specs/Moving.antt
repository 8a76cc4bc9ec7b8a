-- A grid's cells moved into row order in two steps: gathered in a spare slice, and put back from there.
use Rattle.std.specs.Prelude.{◌≡◌, List, ℕ, ◌+◌, ◌<◌, ℤ}
use Rattle.rules.specs.Cells.{cell_of}
use Rattle.grids.specs.Arrange.{source}

-- the first k cells of S are those of the grid in M that has m rows and n columns, in row order
abbrev pub Gathered : List ℤ → ℕ → ℕ → ℕ → List ℤ → ℕ → Type 0
Gathered M first m n S k = (p : ℕ) → p < k → cell_of S p ≡ cell_of M (first + source m n p)
