-- Document 02, Point 9: "One after the other, either way round, restores the cells", whatever the text, the name and the cells.
use mathlib.Core.Path.{◌≡◌}
use mathlib.Core.List.{List}
use Prim.Native.Nat.{ℕ}
use lib.IntN.{ℤ}
use Rattle.syntax.specs.Text.{read}
use Rattle.grids.specs.Arrange.{by_rows, by_columns}
use Rattle.grids.proofs.Theorem.{rows_then_columns, columns_then_rows}
use Rattle.answers.specs.Answers.{cells_by_rows, cells_by_columns}
use Rattle.arranging.proofs.Restoring.{cells_back}

pub rows_and_back : (text w : List ℕ) (m : List ℤ) → cells_by_columns (read text) w (cells_by_rows (read text) w m) ≡ m
unfolding cells_by_rows cells_by_columns
rows_and_back = cells_back by_rows by_columns rows_then_columns

pub columns_and_back : (text w : List ℕ) (m : List ℤ) → cells_by_rows (read text) w (cells_by_columns (read text) w m) ≡ m
unfolding cells_by_rows cells_by_columns
columns_and_back = cells_back by_columns by_rows columns_then_rows
