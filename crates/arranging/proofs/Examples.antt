-- Rows and Columns by the definitions, of small texts: rows of one table, what the definitions give and what RULES 9.9 says.
use mathlib.Core.Path.{◌≡◌, refl}
use mathlib.Core.List.{List, [], ◌∷◌, map}
use Prim.Native.Nat.{ℕ}
use Prim.Native.String.{String}
use lib.ListN.{length}
use lib.IntN.{ℤ, pos}
use Rattle.rules.specs.Cells.{cell_of, listed}
use Rattle.syntax.specs.Bytes.{bytes, lines, token_size, tokens_after, trimmed}
use Rattle.syntax.specs.Grammar.{number_from}
use Rattle.syntax.specs.Known.{find, class_in, after}
use Rattle.syntax.specs.Conditions.{in_line, names, limits, stands}
use Rattle.syntax.specs.Reader.{read_more, read_declare, read_clauses, read_directive, read_loop, read_end, read_start, read_line, parse}
use Rattle.syntax.specs.Text.{Verdict, judged, judge_line, judge, read}
use Rattle.syntax.proofs.Quoted.{text}
use Rattle.grids.specs.Arrange.{by_rows, by_columns, grid_named}
use Rattle.std.specs.Prelude.{Result, Ok}
use Rattle.answers.specs.declared.Refusal.{Refusal}
use Rattle.answers.specs.Answers.{refuse, arrange_of, cells_by_rows, cells_by_columns}
use Rattle.syntax.specs.Bytes as bytes'

-- a loop without statements, over a single cell, a grid, an array, and grids of one column and of one row
abbrev loop : String → List ℕ
loop bounds = text ("integer s, G(2, 3), a(2)" ∷ "integer q(3, 1), p(1, 3)" ∷ "!$omp parallel do num_threads(1)" ∷ bounds ∷ "end do" ∷ [])

abbrev good : List ℕ
good = loop "do i = 1, 1"

-- element (r, c) of the first grid is 10 r + c
abbrev stored : List ℤ
stored = pos 7 ∷ pos 11 ∷ pos 21 ∷ pos 12 ∷ pos 22 ∷ pos 13 ∷ pos 23 ∷ pos 1 ∷ pos 2 ∷ pos 3 ∷ pos 4 ∷ pos 5 ∷ pos 6 ∷ pos 8 ∷ pos 9 ∷ []

abbrev in_rows : List ℤ
in_rows = pos 7 ∷ pos 11 ∷ pos 12 ∷ pos 13 ∷ pos 21 ∷ pos 22 ∷ pos 23 ∷ pos 1 ∷ pos 2 ∷ pos 3 ∷ pos 4 ∷ pos 5 ∷ pos 6 ∷ pos 8 ∷ pos 9 ∷ []

-- and as if they had been in row order
abbrev in_columns : List ℤ
in_columns = pos 7 ∷ pos 11 ∷ pos 22 ∷ pos 21 ∷ pos 13 ∷ pos 12 ∷ pos 23 ∷ pos 1 ∷ pos 2 ∷ pos 3 ∷ pos 4 ∷ pos 5 ∷ pos 6 ∷ pos 8 ∷ pos 9 ∷ []

abbrev done : Result Unit Refusal
done = Ok tt

-- what is answered, and the cells that are left
pub record Row : Type 0 where
  pub got : Result Unit Refusal × List ℤ
  pub want : Result Unit Refusal × List ℤ

abbrev by : (Verdict → List ℕ → List ℤ → List ℤ) → List ℕ → String → List ℤ → Result Unit Refusal → List ℤ → Row
by f t x m r k = record { got = (arrange_of (read t) (bytes x) (length m), f (read t) (bytes x) m); want = (r, k) }

abbrev rows : String → List ℤ → Result Unit Refusal → List ℤ → Row
rows = by cells_by_rows good

abbrev columns : String → List ℤ → Result Unit Refusal → List ℤ → Row
columns = by cells_by_columns good

-- a refusal leaves the cells
abbrev refused : List ℕ → String → List ℤ → ℕ → ℕ → Row
refused t x m n k = by cells_by_rows t x m (refuse n k) m

pub table : List Row
table =
    -- there and back, every other cell unchanged
    rows "g" stored done in_rows
    ∷ columns "g" in_rows done stored
    -- the other way round
    ∷ columns "g" stored done in_columns
    ∷ rows "g" in_columns done stored
    -- upper case reads as lower case, in the text and in the name
    ∷ rows "G" stored done in_rows
    -- one column or one row is the same in both orders
    ∷ rows "q" stored done stored
    ∷ columns "p" stored done stored
    -- no grid: v, not declared, a reserved word, a single cell, an array, a blank before or after the name, no name, more bytes than a name has
    ∷ refused good "i" stored 13 0
    ∷ refused good "h" stored 13 0
    ∷ refused good "do" stored 13 0
    ∷ refused good "s" stored 13 0
    ∷ refused good "a" stored 13 0
    ∷ refused good " g" stored 13 0
    ∷ refused good "g " stored 13 0
    ∷ refused good "" stored 13 0
    ∷ refused good "g23456789012345678901234567890123" stored 13 0
    -- cells as many as the loop's, before the name
    ∷ refused good "h" (pos 3 ∷ []) 5 0
    -- refusals of the text come first
    ∷ refused [] "h" [] 2 1
    ∷ refused (loop "do s = 1, 1") "h" [] 3 4
    ∷ refused (loop "do i = 1, 65536") "h" [] 4 4
    ∷ []

-- every row gives what the rules say
pub examples : map (λ (r : Row). r.got) table ≡ map (λ (r : Row). r.want) table
unfolding table cell_of listed lines bytes'.run token_size tokens_after trimmed number_from find class_in after in_line names limits stands read_more read_declare read_clauses
    read_directive read_loop read_end read_start read_line parse judged judge_line judge read by_rows by_columns grid_named arrange_of cells_by_rows cells_by_columns
examples = refl
