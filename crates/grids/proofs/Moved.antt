-- The cells of a grid in row order: what stands at each place of it, and at every other cell.
use mathlib.Core.Path.{◌≡◌, sym, ◌∙◌, ap}
use mathlib.Core.List.{List}
use mathlib.Core.Logic.{inl, inr}
use Prim.Native.Nat.{ℕ, ◌+◌, ◌-◌, ◌*◌, ◌<◌}
use native.Mathlib.Omega.{arith}
use lib.ListN.{length}
use lib.IntN.{ℤ}
use borrow.Author.Tests.{le-leb, lt-ltb, le-ltb, lt-leb}
use Rattle.rules.specs.Cells.{cell_of, listed}
use Rattle.rules.proofs.CellsLaws.{listed_length, cell_listed, listed_same, listed_cells}
use Rattle.grids.specs.Arrange.{Grid, Within, Other, source, by_rows, turned, rearranged}
use Rattle.grids.proofs.Places.{source_inside, source_back, Where, inside, outside, where_is}

pub turned_within : (n : ℕ) (g : Grid) → Within n g → Within n (turned g)
turned_within n g h = omega arith

pub turned_other : (g : Grid) (c : ℕ) → Other g c → Other (turned g) c
turned_other g c (inl h) = inl h
turned_other g c (inr h) = inr (omega arith)

module _ (g : Grid) (f : ℕ → ℤ) where
  -- place p of the grid
  pub by_rows_at : (p : ℕ) → p < g.rows * g.columns → by_rows g f (g.first + p) ≡ f (g.first + source g.rows g.columns p)
  unfolding by_rows
  by_rows_at p h =
      let e : g.first + p - g.first ≡ p = omega arith in
      rw (le-leb g.first (g.first + p) (omega arith), lt-ltb (g.first + p) (g.first + g.rows * g.columns) (omega arith), e)

  pub by_rows_else : (c : ℕ) → Other g c → by_rows g f c ≡ f c
  unfolding by_rows
  by_rows_else c (inl h) = rw (lt-leb g.first c h)
  by_rows_else c (inr h) = rw (le-leb g.first c (omega arith), le-ltb c (g.first + g.rows * g.columns) h)

-- what holds the right cell at each place holds the cells in row order
pub by_rows_each : (g : Grid) (f u : ℕ → ℤ) → ((p : ℕ) → p < g.rows * g.columns → u (g.first + p) ≡ f (g.first + source g.rows g.columns p))
    → (c : ℕ) → (Other g c → u c ≡ f c) → u c ≡ by_rows g f c
by_rows_each g f u moved c stays = go (where_is g c)
  where
    go : Where g c → u c ≡ by_rows g f c
    go (inside p i e) = ap u e ∙ moved p i ∙ sym (by_rows_at g f p i) ∙ sym (ap (by_rows g f) e)
    go (outside o) = stays o ∙ sym (by_rows_else g f c o)

pub turned_back : (g : Grid) (f : ℕ → ℤ) (c : ℕ) → f c ≡ by_rows (turned g) (by_rows g f) c
turned_back g f c = by_rows_each (turned g) (by_rows g f) f moved c (λ o. sym (by_rows_else g f c (turned_other (turned g) c o)))
  where
    moved : (p : ℕ) → p < g.columns * g.rows → f (g.first + p) ≡ by_rows g f (g.first + source g.columns g.rows p)
    moved p h =
        sym (ap (λ (q : ℕ). f (g.first + q)) (source_back g.columns g.rows p h))
        ∙ sym (by_rows_at g f (source g.columns g.rows p) (omega (arith, source_inside g.columns g.rows p h)))

-- ---- lists of cells

-- a list that holds the right cell at each place
pub is_rearranged : (g : Grid) (m u : List ℤ) → length u ≡ length m
    → ((p : ℕ) → p < g.rows * g.columns → cell_of u (g.first + p) ≡ cell_of m (g.first + source g.rows g.columns p))
    → ((c : ℕ) → c < length m → Other g c → cell_of u c ≡ cell_of m c) → u ≡ rearranged by_rows g m
is_rearranged g m u e moved stays =
    sym (listed_cells u) ∙ ap (λ (n : ℕ). listed n (cell_of u)) e
    ∙ listed_same (length m) _ _ (λ c b. by_rows_each g (cell_of m) (cell_of u) moved c (stays c b))

-- only the cells of the list are read
by_rows_local : (g : Grid) (f h : ℕ → ℤ) (n : ℕ) → Within n g → ((c : ℕ) → c < n → f c ≡ h c) → (c : ℕ) → c < n → by_rows g f c ≡ by_rows g h c
by_rows_local g f h n w k c b = by_rows_each g h (by_rows g f)
    (λ p i. by_rows_at g f p i ∙ k (g.first + source g.rows g.columns p) (omega (arith, w, source_inside g.rows g.columns p i))) c
    (λ o. by_rows_else g f c o ∙ k c b)

pub rearranged_back : (g : Grid) (m : List ℤ) → Within (length m) g → rearranged by_rows (turned g) (rearranged by_rows g m) ≡ m
rearranged_back g m w =
    ap (λ (n : ℕ). listed n (by_rows (turned g) (cell_of (rearranged by_rows g m)))) (listed_length (length m) (by_rows g (cell_of m)))
    ∙ listed_same (length m) _ _ (λ c b.
    by_rows_local (turned g) _ _ (length m) (turned_within (length m) g w) (cell_listed (length m) (by_rows g (cell_of m))) c b ∙ sym (turned_back g (cell_of m) c))
    ∙ listed_cells m
