-- `conditions::comparison` meets its contract.
use Rattle.conditions.proofs.Comparisons.{compared_none, right_unread, right_unclosed, right_only, compared_answers}
use Rattle.conditions.proofs.comparison.Goals as goal

pub returns-in_err-by : goal.returns-in_err-by
returns-in_err-by c = rw c.from_residual.ensures (compared_none _ _ _ _ _ _ _ _ c.in_err-by.ensures)

pub returns-in_err-g : goal.returns-in_err-g
returns-in_err-g c =
    let p = c.in_ok-by.ensures in
    rw c.from_residual-in_err-g.ensures (right_unread _ _ _ _ _ _ _ _ _ _ p.relation p.passed _ c.in_err-g.ensures)

pub returns-in_err-g-2 : goal.returns-in_err-g-2
returns-in_err-g-2 c =
    let p = c.in_ok-by.ensures in
    rw c.from_residual-in_err-g-2.ensures (right_unclosed _ _ _ _ _ _ _ _ _ _ p.relation p.passed _ _ c.in_ok-g.ensures c.in_err-g-2.ensures)

pub returns-in_err-at : goal.returns-in_err-at
returns-in_err-at c =
    let p = c.in_ok-by.ensures in
    rw c.from_residual-in_err-at.ensures
    (right_only _ _ _ _ _ _ _ _ _ _ p.relation p.passed _ _ c.in_ok-g.ensures _ c.in_ok-g-2.ensures c.in_err-at.ensures)

pub returns : goal.returns
returns c =
    let p = c.in_ok-by.ensures in
    compared_answers _ _ _ _ _ _ _ _ _ _ p.relation p.passed _ _ c.in_ok-g.ensures _ c.in_ok-g-2.ensures _ _ _ c.in_ok-at.ensures
    c.relation_number.ensures c.then_emit.ensures
