-- The words after each function, one by one.
use mathlib.Core.Path.{◌≡◌}
use mathlib.Core.List.{List}
use Prim.Native.Nat.{ℕ, max, ◌+◌, ◌*◌, ◌/◌, ◌%◌, ◌<◌}
use native.Mathlib.Omega.{arith}
use lib.IntN.{ℤ}
use lib.ListN.{length, get_or, length-set}
use Rattle.std.proofs.lemmas.Grind.{common_steps}
use Rattle.int32.specs.Integers.{word, value}
use Rattle.rules.specs.Operation.{operation}
use Rattle.rules.specs.Loop.{operator}
use Rattle.tables.specs.Layout.{class_held}
use Rattle.rules.specs.Choose.{pick}
use Rattle.shadow.specs.Tables.{lower}
use Rattle.tables.proofs.Held.{Outside}
use Rattle.noting.specs.Changes.{Placed, Ready, one_more, read_noted, counted, row_written, own_written, written, updated}

-- ---- a read

module _ (W : List ℕ) (row own g : ℕ) (p : Placed W row own) where
  pub read_length : length (read_noted W row own g) ≡ length W
  unfolding read_noted
  read_length = simp length-set

  pub read_met : get_or (read_noted W row own g) (row + 1) 0 ≡ one_more (get_or W (own + 1) 0) (get_or W (own + 2) 0) (g + 1) (get_or W (row + 1) 0)
  unfolding read_noted
  read_met = grind (arith, common_steps)

  pub read_highest : get_or (read_noted W row own g) (row + 5) 0 ≡ pick (get_or W (own + 1) 0) (g + 1) (get_or W (row + 5) 0) (max (g + 1) (get_or W (row + 5) 0))
  unfolding read_noted
  read_highest = grind (arith, common_steps)

  pub read_exposed : get_or (read_noted W row own g) (own + 2) 0 ≡ pick (get_or W (own + 1) 0) (g + 1) (get_or W (own + 2) 0) (g + 1)
  unfolding read_noted
  read_exposed = grind (arith, common_steps)

  pub read_other : (k : ℕ) → (k ≡ row + 1 → ⊥) → (k ≡ row + 5 → ⊥) → (k ≡ own + 2 → ⊥) → get_or (read_noted W row own g) k 0 ≡ get_or W k 0
  unfolding read_noted
  read_other k m h n = grind (arith, common_steps)

-- ---- the counts of a write or an update

module _ (W : List ℕ) (row own i : ℕ) where
  pub counted_length : length (counted W row own i) ≡ length W
  unfolding counted
  counted_length = simp length-set

  pub counted_other : (k : ℕ) → 1 < k → (k ≡ own + 4 → ⊥) → get_or (counted W row own i) k 0 ≡ get_or W k 0
  unfolding counted
  counted_other k h n = grind (arith, common_steps)

  module _ (p : Placed W row own) where
    pub counted_pairs : get_or (counted W row own i) 0 0 ≡ pick (get_or W (own + 4) 0) (i + 1) (get_or W 0 0) (get_or W 0 0 + 1)
    unfolding counted
    counted_pairs = grind (arith, common_steps)

    pub counted_cells : get_or (counted W row own i) 1 0
        ≡ pick (get_or W (row + 3) 0 / 2 % 2) 1 (get_or W 1 0) (pick (get_or W (row + 2) 0) 0 (get_or W 1 0 + 1) (get_or W 1 0))
    unfolding counted
    counted_cells = grind (arith, common_steps)

    pub counted_touched : get_or (counted W row own i) (own + 4) 0 ≡ i + 1
    unfolding counted
    counted_touched = grind (arith, common_steps)

    pub counted_placed : Placed (counted W row own i) row own
    counted_placed = record { first = p.first; apart = p.apart; inside = omega (arith, p.inside, counted_length) }

  -- then the cell's own words can be marked
  pub counted_ready : (g : ℕ) → Ready W row own → g < 4294967295
      → (Placed (counted W row own i) row own) × (get_or (counted W row own i) (row + 1) 0 < 4294967295)
      × (get_or (counted W row own i) (row + 2) 0 < 4294967295) × (g < 4294967295)
  counted_ready g r h =
      let p = r.placed in
      let a = p.first in
      let b = p.apart in
      let m : get_or (counted W row own i) (row + 1) 0 ≡ get_or W (row + 1) 0 = counted_other (row + 1) (omega arith) (omega arith) in
      let w : get_or (counted W row own i) (row + 2) 0 ≡ get_or W (row + 2) 0 = counted_other (row + 2) (omega arith) (omega arith) in
      (counted_placed p, omega (arith, m, r.met), omega (arith, w, r.writers), h)

-- ---- a write

module _ (W : List ℕ) (row own g : ℕ) (v : ℤ) (p : Placed W row own) where
  pub written_length : length (written W row own g v) ≡ length W
  unfolding written row_written own_written
  written_length = simp length-set

  pub written_met : get_or (written W row own g v) (row + 1) 0 ≡ one_more (get_or W (own + 1) 0) (get_or W (own + 2) 0) (g + 1) (get_or W (row + 1) 0)
  unfolding written row_written own_written
  written_met = grind (arith, common_steps)

  pub written_writers : get_or (written W row own g v) (row + 2) 0 ≡ pick (get_or W (own + 1) 0) (g + 1) (get_or W (row + 2) 0) (get_or W (row + 2) 0 + 1)
  unfolding written row_written own_written
  written_writers = grind (arith, common_steps)

  pub written_flags : get_or (written W row own g v) (row + 3) 0 ≡ pick (get_or W (own + 2) 0) (g + 1) (get_or W (row + 3) 0 / 2 * 2 + 1) (get_or W (row + 3) 0)
  unfolding written row_written own_written
  written_flags = grind (arith, common_steps)

  pub written_lowest : get_or (written W row own g v) (row + 4) 0
      ≡ pick (get_or W (own + 1) 0) (g + 1) (get_or W (row + 4) 0) (lower (g + 1) (get_or W (row + 4) 0))
  unfolding written row_written own_written
  written_lowest = grind (arith, common_steps)

  pub written_value : get_or (written W row own g v) own 0 ≡ word v
  unfolding written row_written own_written
  written_value = grind (arith, common_steps)

  pub written_wrote : get_or (written W row own g v) (own + 1) 0 ≡ g + 1
  unfolding written row_written own_written
  written_wrote = grind (arith, common_steps)

  pub written_other : (k : ℕ) → Outside k (row + 1) (row + 5) → Outside k own (own + 2) → get_or (written W row own g v) k 0 ≡ get_or W k 0
  unfolding written row_written own_written
  written_other k r o = grind (arith, common_steps)

-- ---- an update

module _ (W : List ℕ) (row own : ℕ) (v : ℤ) (p : Placed W row own) where
  pub updated_length : length (updated W row own v) ≡ length W
  unfolding updated
  updated_length = simp length-set

  pub updated_flags : get_or (updated W row own v) (row + 3) 0 ≡ get_or W (row + 3) 0 / 4 * 4 + 2 + get_or W (row + 3) 0 % 2
  unfolding updated
  updated_flags = grind (arith, common_steps)

  pub updated_partial : get_or (updated W row own v) (own + 3) 0 ≡ word ((operation (operator (class_held W row))).join v (value (get_or W (own + 3) 0)))
  unfolding updated
  updated_partial = grind (arith, common_steps)

  pub updated_other : (k : ℕ) → (k ≡ row + 3 → ⊥) → (k ≡ own + 3 → ⊥) → get_or (updated W row own v) k 0 ≡ get_or W k 0
  unfolding updated
  updated_other k a b = grind (arith, common_steps)
