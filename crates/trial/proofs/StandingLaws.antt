-- What cells and words that stand for a state have room for.
use mathlib.Core.Path.{◌≡◌, ◌∙◌, ap}
use mathlib.Core.List.{List}
use Prim.Native.Nat.{ℕ, ◌+◌, ◌*◌, ◌≤◌, ◌<◌}
use native.Mathlib.Omega.{arith}
use lib.ListN.{length}
use lib.IntN.{ℤ}
use Rattle.rules.proofs.CellsLaws.{listed_length}
use Rattle.rules.specs.Loop.{Loop, Partition}
use Rattle.rules.specs.Steps.{State}
use Rattle.tables.specs.Layout.{row_at}
use Rattle.tables.proofs.Held.{rows_apart}
use Rattle.trial.specs.Standing.{Suits, Standing}

-- how many cells and processors there are at most
pub suits_low : {k n : ℕ} {l : Loop} {δ : Partition} → Suits k l δ → n ≡ l.size → (c : ℕ) → c < n → (c ≤ 4096) × (k ≤ 8)
suits_low u e c b = (omega (arith, e, u.cells_most), u.most)

module _ (k : ℕ) (l : Loop) (δ : Partition) (M : List ℤ) (W : List ℕ) (s : State) (h : Standing k l δ M W s) where
  pub standing_size : length M ≡ l.size
  standing_size = ap length h.cells ∙ listed_length l.size s.cells

  pub standing_room : (c : ℕ) → c < length M → row_at k c + 6 + 5 * k ≤ length W
  standing_room c b =
      let w : row_at k l.size ≤ length W = rw h.suits.processors at h.words.size in
      omega (arith, w, rows_apart k c l.size (omega (arith, standing_size)))
