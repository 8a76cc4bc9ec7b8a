-- `moving::gather` meets its contract.
use Rattle.moving.proofs.Steps.{gathered_more}
use Rattle.moving.proofs.gather.Goals as goal
use borrow.Author.Rules.{rules}
use native.Mathlib.Omega.{arith}

pub loop-p-preserved : goal.loop-p-preserved
loop-p-preserved c = gathered_more _ _ _ _ _ _ _ (omega arith) (rw c.source_of.ensures.0 (search rules)) c.loop-p.invariant
