-- What Rows and Columns find out before they move a cell: the grid that is named, or why not.
use Rattle.std.specs.Prelude.{cond, List, ℕ, zero, suc, ltb, Result, Ok, Err}
use Rattle.std.proofs.Math.Option.{Option, none, some}
use Rattle.syntax.specs.Flaws.{flaw_number}
use Rattle.syntax.specs.Text.{Verdict, refused, good}
use Rattle.grids.specs.Arrange.{Grid, grid_named}
use Rattle.answers.specs.declared.Located.{Located}
use Rattle.answers.specs.declared.Refusal.{Refusal}
use Rattle.answers.specs.Answers.{refuse, load_number}
use Rattle.arranging.specs.declared.Grid.{Grid as Found}

abbrev pub found : ℕ → ℕ → ℕ → Found
found f m n = record { first = f; rows = m; columns = n }

-- by a refusal's number (0: none), and then by the grid
abbrev pub told : ℕ → Option Grid → Result Found Refusal
told zero none = refuse 13 0
told zero (some g) = Ok (found g.first g.rows g.columns)
told (suc n) o = refuse (suc n) 0

-- of what Name tells: "name not a grid" is one that takes fewer than two subscripts, or is not declared
abbrev pub grid_told : Result Located Refusal → Result Found Refusal
grid_told (Ok l) = cond (ltb l.subscripts 2) (refuse 13 0) (Ok (found l.first l.rows l.columns))
grid_told (Err e) = refuse 13 0

-- of a text's names, where m cells are lent
unfoldable pub sought_of : Verdict → List ℕ → ℕ → Result Found Refusal
sought_of (refused f k) w m = refuse (flaw_number f) k
sought_of (good s) w m = told (load_number s m) (grid_named s.table w)
