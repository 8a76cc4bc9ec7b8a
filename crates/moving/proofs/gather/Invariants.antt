-- `moving::gather` meets its contract.
use Rattle.moving.specs.Moving.{Gathered}
use Rattle.moving.proofs.gather.Given as goal

abbrev pub invariant-loop-p : goal.invariant-loop-p
invariant-loop-p l = Gathered l.cells l.first l.rows l.columns l.spare l.p
