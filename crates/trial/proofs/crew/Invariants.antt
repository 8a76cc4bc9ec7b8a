-- `trial::crew` meets its contract: the records below q are at the start of their blocks.
use mathlib.Core.Path.{◌≡◌}
use Prim.Native.Nat.{ℕ, ◌<◌}
use lib.ListN.{length, get_or}
use Rattle.rules.specs.Blocks.{block_start}
use Rattle.trial.specs.Running.{waiting, nobody}
use Rattle.trial.proofs.crew.Given as goal

abbrev pub invariant-loop-q : goal.invariant-loop-q
invariant-loop-q l = (length l.workers ≡ 8) × ((j : ℕ) → j < l.q → get_or l.workers j nobody ≡ waiting (block_start l.setting.iterations l.setting.processors j))
