-- The grid that a name names: its cells are cells of the table, and a name that is not declared names none.
use mathlib.Core.Path.{◌≡◌, refl, ◌∙◌, ap}
use mathlib.Core.Bool.{Bool, false, cond}
use mathlib.Core.List.{List, [], ◌∷◌, map}
use mathlib.Core.Option.{Option, none, some}
use Prim.Native.Nat.{ℕ, ◌+◌, ◌*◌, ◌≤◌}
use native.Mathlib.Omega.{arith}
use lib.ListN.{get_or}
use Rattle.syntax.specs.Bytes.{lower}
use Rattle.syntax.specs.Known.{Entry, named, known, nowhere, find, cells}
use Rattle.syntax.specs.Sane.{SaneTable}
use Rattle.syntax.proofs.Table.{find_ends, find_grid}
use Rattle.syntax.proofs.TestLaws.{neither_holds}
use Rattle.grids.specs.Arrange.{Grid, Within, grid_of, grid_named}

find_unknown : (x : List ℕ) (t : List Entry) → known x t ≡ false → find x t ≡ nowhere
unfolding find
find_unknown x [] h = refl
find_unknown x (e ∷ es) h =
    let (p, q) = neither_holds (named x e) (known x es) h in ap (λ (b : Bool). cond b e (find x es)) p ∙ find_unknown x es q

pub grid_unknown : (t : List Entry) (w : List ℕ) → known (map lower w) t ≡ false → grid_named t w ≡ none
unfolding grid_named
grid_unknown t w h = ap (λ (e : Entry). grid_of e.first e.extents) (find_unknown (map lower w) t h)

-- if it is one, its cells are among n
abbrev pub Inside : ℕ → Option Grid → Type 0
Inside n none = Unit {0}
Inside n (some g) = Within n g

grid_of_inside : (first n : ℕ) (ns : List ℕ) → first + get_or ns 0 0 * get_or ns 1 0 ≤ n → Inside n (grid_of first ns)
grid_of_inside first n [] h = tt
grid_of_inside first n (k ∷ []) h = tt
grid_of_inside first n (k ∷ l ∷ ns) h = h

pub named_inside : (t : List Entry) (w : List ℕ) → SaneTable t → Inside (cells t) (grid_named t w)
unfolding grid_named
named_inside t w h = grid_of_inside _ _ (find (map lower w) t).extents (omega (arith, find_ends (map lower w) t h, find_grid (map lower w) t h))
