-- `updates::summand` meets its contract.
use mathlib.Core.Path.{sym, ◌∙◌}
use Rattle.updates.proofs.Sums.{sum_unread, sum_unsigned, sum_found}
use Rattle.updates.proofs.summand.Goals as goal

pub returns-in_err-g : goal.returns-in_err-g
returns-in_err-g c = rw c.from_residual.ensures (sum_unread _ _ _ _ _ _ c.in_err-g.ensures)

pub returns-then-signed : goal.returns-then-signed
returns-then-signed c = sum_found _ _ _ _ _ _ _ c.in_ok-g.ensures (sym c.signed.ensures ∙ c.if-signed.true)

pub returns-else-signed : goal.returns-else-signed
returns-else-signed c = sum_unsigned _ _ _ _ _ _ _ c.in_ok-g.ensures (sym c.signed.ensures ∙ c.if-signed.false)
