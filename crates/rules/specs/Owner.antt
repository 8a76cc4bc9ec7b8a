-- Which block holds an iteration, and which processor has a group.
use Rattle.std.specs.Prelude.{ℕ, zero, suc}
use Rattle.rules.specs.Choose.{below}
use Rattle.rules.specs.Loop.{Partition}

-- the last of the blocks 0 .. k that begin at or before i, block p at b p
unfoldable pub owner : (ℕ → ℕ) → ℕ → ℕ → ℕ
owner b zero i = 0
owner b (suc k) i = below i (b (suc k)) (owner b k i) (suc k)

-- the processor that has group g
abbrev pub whose : Partition → ℕ → ℕ
whose δ g = owner δ.share δ.processors g
