-- `clauses::grouping_of` meets its contract.
use mathlib.Core.Path.{◌≡◌, refl}
use Prim.Native.Nat.{ℕ, zero, suc}
use native.Mathlib.Omega.{arith}
use Rattle.rules.specs.declared.Grouping.TheVariants.{Blocks}
use Rattle.syntax.specs.Known.{grouping_by}
use Rattle.clauses.proofs.grouping_of.Goals as goal

by_blocks : (n : ℕ) → (n ≡ 0 → ⊥) → Blocks ≡ grouping_by n
by_blocks zero h = absurd (h refl)
by_blocks (suc n) h = refl

pub returns-else-statics-eq0 : goal.returns-else-statics-eq0
returns-else-statics-eq0 c = by_blocks c.args.statics (omega arith)
