-- `values::copied` meets its contract.
use Rattle.values.proofs.DataLines.{copied_not, copied_to}
use Rattle.values.proofs.copied.Goals as goal

pub returns-in_err-d : goal.returns-in_err-d
returns-in_err-d c = λ o e. rw c.from_residual.ensures (copied_not _ _ c.lead-l.result (c.lead-l.ensures.read c.requires) o c.in_err-d.ensures)

pub returns : goal.returns
returns c = λ o e. copied_to _ _ c.lead-l.result (c.lead-l.ensures.read c.requires) o c.in_ok-d.d c.in_ok-d.ensures _ e
