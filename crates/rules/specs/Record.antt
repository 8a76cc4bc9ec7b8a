-- RULES 5 e (document 02, Point 5): "The record of a cell now holds the lowest-numbered iteration that writes it and the highest-numbered that so reads
-- it; with Point 3's clause, blocks." `f i` holds the accesses of group i, an iteration or a block.
use Rattle.std.specs.Prelude.{◌≡◌, ℕ, suc, ◌≤◌, ◌<◌}
use Rattle.rules.specs.Log.{writes, Log, Has, Exposed}

-- n is 1 + the lowest number that P holds of, 0 if there is none
pub record Lowest (P : ℕ → Type 0) (n : ℕ) : Type 0 where
  pub least : (g : ℕ) → P g → (0 < n) × (n ≤ suc g)
  pub holds : (g : ℕ) → n ≡ suc g → P g

-- and 1 + the highest
pub record Highest (P : ℕ → Type 0) (n : ℕ) : Type 0 where
  pub most : (g : ℕ) → P g → suc g ≤ n
  pub holds : (g : ℕ) → n ≡ suc g → P g

-- the record of cell c: who writes it, and who reads it before writing it
pub record Recorded (f : ℕ → Log) (c writer reader : ℕ) : Type 0 where
  pub lowest : Lowest (λ i. Has writes c (f i)) writer
  pub highest : Highest (λ i. Exposed c (f i)) reader
