-- The cell of a subscript, or of two.
use Rattle.std.specs.Prelude.{ℕ, Option, Some, None}
use Rattle.rules.specs.Loop.{Act, fault}

-- at the cell that was found, or the fault of a subscript outside its bound
unfoldable pub at_cell : Option ℕ → ℕ → (ℕ → Act) → Act
at_cell (Some c) line k = k c
at_cell None line k = fault 9 line
