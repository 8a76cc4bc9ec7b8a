-- RULES 4.1 (document 01, Steps; document 02, Point 3): which iterations a processor has; they are tested one by one, or a processor's as one.
use Rattle.std.specs.Prelude.{ℕ, ◌*◌, ◌/◌, min}
use Rattle.rules.specs.declared.Grouping.{Grouping}
use Rattle.rules.specs.declared.Grouping.TheVariants.{Iterations, Blocks}
use Rattle.rules.specs.Loop.{Partition}
use Rattle.rules.specs.Owner.{owner}

-- "Processor p, from 0, has the iterations with index floor(n × p / P) up to below floor(n × (p + 1) / P)"
unfoldable pub block_start : ℕ → ℕ → ℕ → ℕ
block_start n k p = n * p / k

-- n iterations over k processors, each iteration a group of its own. The two `min` say only that nothing lies past the last iteration and the
-- last processor.
unfoldable pub singles : ℕ → ℕ → Partition
singles n k = record { processors = k; groups = n; group = λ i. i; cut = λ g. min n g; share = λ p. min n (block_start n k p) }

-- "each processor's block as one long iteration": group p is the block of processor p
unfoldable pub blocks : ℕ → ℕ → Partition
blocks n k = record {
  processors = k;
  groups = k;
  group = owner (λ p. min n (block_start n k p)) k;
  cut = λ p. min n (block_start n k p);
  share = λ p. min k p;
}

-- "A text with the clause `schedule(static)` ... is tested with each processor's block as one long iteration"; any other iteration by iteration
unfoldable pub tested : Grouping → ℕ → ℕ → Partition
tested Iterations n k = singles n k
tested Blocks n k = blocks n k
