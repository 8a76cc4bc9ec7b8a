-- `clauses::operator_at` meets its contract.
use Rattle.clauses.proofs.ClauseWords.{operator_sum, operator_product, operator_maximum, operator_not}
use Rattle.clauses.proofs.operator_at.Goals as goal

pub returns-in-Some : goal.returns-in-Some
returns-in-Some c = operator_sum c.in-Some.ensures

pub returns-in-Some-pass : goal.returns-in-Some-pass
returns-in-Some-pass c = operator_product c.in_default.ensures c.in-Some-pass.ensures

pub returns-in_err-next : goal.returns-in_err-next
returns-in_err-next c = rw c.from_residual.ensures (operator_not c.in_default.ensures c.in_default-pass.ensures c.in_err-next.ensures)

pub returns : goal.returns
returns c = operator_maximum c.in_default.ensures c.in_default-pass.ensures c.in_ok-next.ensures
