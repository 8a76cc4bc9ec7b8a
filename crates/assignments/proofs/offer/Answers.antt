-- `assignments::offer` meets its contract.
use Rattle.assignments.proofs.Assigned.{offers_none, offers_not, offers_some}
use Rattle.assignments.proofs.offer.Goals as goal

pub returns-in_err-operator : goal.returns-in_err-operator
returns-in_err-operator c = rw c.from_residual.ensures (offers_none _ _ _ _ _ _ c.in_err-operator.was)

pub returns-in_err-g : goal.returns-in_err-g
returns-in_err-g c = rw c.from_residual-in_err-g.ensures (offers_not _ _ _ _ _ _ _ _ c.in_ok-operator.was c.in_err-g.ensures)

pub returns : goal.returns
returns c = offers_some _ _ _ _ _ _ _ _ c.in_ok-operator.was _ c.in_ok-g.ensures
