-- What undoes a rearrangement of any grid undoes it in the cells that a service leaves.
use mathlib.Core.Path.{◌≡◌, refl, sym, ◌∙◌, ap, subst}
use mathlib.Core.Bool.{Bool, true, false, cond}
use mathlib.Core.List.{List}
use mathlib.Core.Option.{Option, none, some}
use Prim.Native.Nat.{ℕ}
use lib.Dec.{eqb}
use lib.ListN.{length}
use lib.IntN.{ℤ}
use borrow.Author.Tests.{eqb-true}
use Rattle.rules.specs.Cells.{cell_of}
use Rattle.rules.proofs.CellsLaws.{listed_length}
use Rattle.syntax.specs.Known.{State, cells}
use Rattle.syntax.specs.Text.{Verdict, refused, good, read}
use Rattle.syntax.proofs.Sane.{accepted_sane}
use Rattle.grids.specs.Arrange.{Grid, Within, rearranged, grid_named}
use Rattle.grids.proofs.Named.{Inside, named_inside}
use Rattle.answers.specs.Answers.{taken, grid_number, load_number, arranged, cells_arranged}

-- one way and then the other
module _ (f h : Grid → (ℕ → ℤ) → ℕ → ℤ) (back : (g : Grid) (m : List ℤ) → Within (length m) g → rearranged h g (rearranged f g m) ≡ m) where
  pub cells_back : (text w : List ℕ) (m : List ℤ) → cells_arranged h (read text) w (cells_arranged f (read text) w m) ≡ m
  cells_back text w m = go (read text) refl
    where
      -- by the grid, if the name is one, and by whether the cells are as many as the loop's
      done : (s : State) (o : Option Grid) → Inside (cells s.table) o → (b : Bool) → eqb (length m) (cells s.table) ≡ b
          → let k = taken (grid_number o (cond b 0 5)) (arranged f o m) m in taken (grid_number o (load_number s (length k))) (arranged h o k) k ≡ m
      done s none i true c = rw c
      done s (some g) i true c =
          let k = rearranged f g m in
          let e : eqb (length k) (cells s.table) ≡ true = ap (λ (n : ℕ). eqb n (cells s.table)) (listed_length (length m) (f g (cell_of m))) ∙ c in
          ap (λ (b : Bool). taken (grid_number (some g) (cond b 0 5)) (rearranged h g k) k) e
          ∙ back g m (subst (λ (n : ℕ). Within n g) (sym (eqb-true (length m) (cells s.table) c)) i)
      done s none i false c = rw c
      done s (some g) i false c = rw c

      go : (v : Verdict) → read text ≡ v → cells_arranged h v w (cells_arranged f v w m) ≡ m
      go (refused n k) e = refl
      go (good s) e =
          done s (grid_named s.table w) (named_inside s.table w (accepted_sane text s e).table) (eqb (length m) (cells s.table)) refl
