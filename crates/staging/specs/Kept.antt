-- Words and list keep a stage table.
use Rattle.std.specs.Prelude.{◌≡◌, List, ℕ, ◌*◌, ◌≤◌, ◌<◌, length}
use Rattle.reorder.specs.StageTable.{Table}
use Rattle.staging.specs.Rows.{stage_in, row_in}

-- the rows of k cells, and of n iterations the stages of those below i
pub record Kept (k n i : ℕ) (W L : List ℕ) (t : Table) : Type 0 where
  pub rows : (c : ℕ) → c < k → row_in W c ≡ t.rows c
  pub stages : (j : ℕ) → j < i → stage_in L j ≡ t.stages j
  pub room : k * 4 ≤ length W
  pub numbers : length L ≡ n
