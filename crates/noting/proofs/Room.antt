-- The counts of a loop within the limits of RULES 1.13 have room for one more.
use mathlib.Core.List.{List}
use Prim.Native.Nat.{ℕ, ◌≤◌, ◌<◌}
use native.Mathlib.Nat.{mul-le-mul}
use native.Mathlib.Omega.{arith}
use lib.IntN.{ℤ}
use Rattle.rules.specs.declared.Class.{Class}
use Rattle.rules.specs.Loop.{Loop, Partition}
use Rattle.shadow.specs.Tables.{Tables}
use Rattle.shadow.proofs.Bounds.{Bounded}
use Rattle.tables.specs.Layout.{row_at, own_at, Holds}
use Rattle.noting.specs.Changes.{Ready}
use Rattle.tables.proofs.Held.{rows_apart}

-- "N to 4,096; P 1 to 8; n to 65,535"
pub ready : (l : Loop) (δ : Partition) (p : ℕ) (class : ℕ → Class) (entry : ℕ → ℤ) (W : List ℕ) (t : Tables) → Holds l.size p class entry W t
    → Bounded l δ t → l.size ≤ 4096 → l.iterations ≤ 65535 → δ.groups ≤ 65535
    → (c q : ℕ) → c < l.size → q < p → Ready W (row_at p c) (own_at (row_at p c) q)
ready l δ p class entry W t h d s i g c q a b = record {
  placed = record { first = omega arith; apart = omega arith; inside = omega (arith, rows_apart p c l.size a, h.size) };
  pairs = omega (arith, h.pairs, d.pair_count, mul-le-mul i s);
  cells = omega (arith, h.cells, d.cell_count);
  met = omega (arith, (h.rows c a).met, d.met c);
  writers = omega (arith, (h.rows c a).writers, d.writers c, d.met c);
}
