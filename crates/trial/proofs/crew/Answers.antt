-- `trial::crew` meets its contract: the records below q are at the start of their blocks.
use native.Mathlib.Omega.{arith}
use lib.ListN.{length-set}
use Rattle.rules.specs.Blocks.{block_start}
use Rattle.trial.specs.Running.{waiting}
use Rattle.trial.proofs.Starting.{crew_more}
use Rattle.trial.proofs.crew.Goals as goal

pub loop-q-preserved : goal.loop-q-preserved
loop-q-preserved c =
    let g = c.args.setting in (
      simp length-set c.loop-q.invariant.0,
      rw (c.record_at.ensures, c.block_start-i.ensures)
          (crew_more _ _ (λ j. waiting (block_start g.iterations g.processors j)) (omega arith) c.loop-q.invariant.1),
    )
