-- A row set and read back, and the rows of other cells.
use mathlib.Core.Path.{◌≡◌, refl}
use mathlib.Core.Logic.{◌≢◌}
use mathlib.Core.Bool.{Bool, true, false}
use mathlib.Core.List.{List}
use Prim.Native.Nat.{ℕ, ◌+◌, ◌*◌, ◌≤◌}
use native.Mathlib.Omega.{arith}
use lib.Dec.{eqb}
use lib.ListN.{length, get_or, set, length-set}
use lib.Seq.{get_or-set_same, get_or-set_other}
use Rattle.reorder.specs.declared.Row.{Row}
use Rattle.staging.specs.Rows.{flag, row_in, row_set}

pub length_row : (W : List ℕ) (c : ℕ) (r : Row) → length (row_set W c r) ≡ length W
unfolding row_set
length_row W c r = simp length-set

-- the word at j after four words from a on are set
module _ (W : List ℕ) (a x y z u d : ℕ) where
  abbrev four : List ℕ
  four = set (set (set (set W a x) (a + 1) y) (a + 2) z) (a + 3) u

  four_past : (j : ℕ) → j ≢ a → j ≢ a + 1 → j ≢ a + 2 → j ≢ a + 3 → get_or four j d ≡ get_or W j d
  four_past j p q r s = rw (
    get_or-set_other (set (set (set W a x) (a + 1) y) (a + 2) z) (a + 3) j u d s,
    get_or-set_other (set (set W a x) (a + 1) y) (a + 2) j z d r,
    get_or-set_other (set W a x) (a + 1) j y d q,
    get_or-set_other W a j x d p,
  )

  module _ (b : a + 4 ≤ length W) where
    four_0 : get_or four a d ≡ x
    four_0 = rw (
      get_or-set_other (set (set (set W a x) (a + 1) y) (a + 2) z) (a + 3) a u d (omega arith),
      get_or-set_other (set (set W a x) (a + 1) y) (a + 2) a z d (omega arith),
      get_or-set_other (set W a x) (a + 1) a y d (omega arith),
      get_or-set_same W a x d (omega arith),
    )

    four_1 : get_or four (a + 1) d ≡ y
    four_1 = rw (
      get_or-set_other (set (set (set W a x) (a + 1) y) (a + 2) z) (a + 3) (a + 1) u d (omega arith),
      get_or-set_other (set (set W a x) (a + 1) y) (a + 2) (a + 1) z d (omega arith),
      get_or-set_same (set W a x) (a + 1) y d (omega (arith, length-set W a x)),
    )

    four_2 : get_or four (a + 2) d ≡ z
    four_2 = rw (
      get_or-set_other (set (set (set W a x) (a + 1) y) (a + 2) z) (a + 3) (a + 2) u d (omega arith),
      get_or-set_same (set (set W a x) (a + 1) y) (a + 2) z d (omega (arith, length-set W a x, length-set (set W a x) (a + 1) y)),
    )

    four_3 : get_or four (a + 3) d ≡ u
    four_3 = get_or-set_same (set (set (set W a x) (a + 1) y) (a + 2) z) (a + 3) u d
        (omega (arith, length-set W a x, length-set (set W a x) (a + 1) y, length-set (set (set W a x) (a + 1) y) (a + 2) z))

flag_back : (b : Bool) → eqb (flag b) 1 ≡ b
flag_back true = refl
flag_back false = refl

pub row_same : (W : List ℕ) (c : ℕ) (r : Row) → c * 4 + 4 ≤ length W → row_in (row_set W c r) c ≡ r
unfolding row_in row_set
row_same W c r b =
    let f = four_0 W (c * 4) r.last (flag r.changes) r.changed r.touched 0 b in
    let g = four_1 W (c * 4) r.last (flag r.changes) r.changed r.touched 0 b in
    let h = four_2 W (c * 4) r.last (flag r.changes) r.changed r.touched 0 b in
    let k = four_3 W (c * 4) r.last (flag r.changes) r.changed r.touched 0 b in
    rw (f, g, h, k, flag_back r.changes)

pub row_other : (W : List ℕ) (c d : ℕ) (r : Row) → c ≢ d → row_in (row_set W c r) d ≡ row_in W d
unfolding row_in row_set
row_other W c d r n =
    let past = four_past W (c * 4) r.last (flag r.changes) r.changed r.touched 0 in
    rw (
      past (d * 4) (omega (arith, n)) (omega (arith, n)) (omega (arith, n)) (omega (arith, n)),
      past (d * 4 + 1) (omega (arith, n)) (omega (arith, n)) (omega (arith, n)) (omega (arith, n)),
      past (d * 4 + 2) (omega (arith, n)) (omega (arith, n)) (omega (arith, n)) (omega (arith, n)),
      past (d * 4 + 3) (omega (arith, n)) (omega (arith, n)) (omega (arith, n)) (omega (arith, n)),
    )
