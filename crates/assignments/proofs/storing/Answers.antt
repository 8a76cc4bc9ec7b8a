-- `assignments::storing` meets its contract.
use Rattle.assignments.proofs.Assigned.{stores_unread, stores_not, stores_answers}
use Rattle.assignments.proofs.storing.Goals as goal

pub returns-in_err-g : goal.returns-in_err-g
returns-in_err-g c = rw c.from_residual.ensures (stores_unread _ _ _ _ _ _ _ _ _ c.in_err-g.ensures)

pub returns-in_err-h : goal.returns-in_err-h
returns-in_err-h c = rw c.from_residual-in_err-h.ensures (stores_not _ _ _ _ _ _ _ _ _ c.in_ok-g.ensures _ _ c.in_err-h.ensures)

pub returns : goal.returns
returns c =
    stores_answers _ _ _ _ _ _ _ _ _ c.in_ok-g.ensures _ _ _ _ _ c.requires.line_bound.1 _ c.operation-o.ensures c.requires.le_at.0
    c.in_ok-h.ensures c.then_emit.ensures
