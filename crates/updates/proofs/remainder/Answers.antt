-- `updates::remainder` meets its contract, operator by operator.
use mathlib.Core.Logic.{inl, inr}
use Rattle.updates.proofs.Parts.{rest_answers, rest_unread, rest_sealed}
use Rattle.updates.proofs.remainder.Goals as goal

pub returns-in-Sum : goal.returns-in-Sum
returns-in-Sum c = elim c.in-Sum.is [ inl e ↦ rest_answers _ e c.expression.ensures | inr e ↦ rest_answers _ e c.expression.ensures ]

pub returns-in_err-g-in-Maximum : goal.returns-in_err-g-in-Maximum
returns-in_err-g-in-Maximum c = rw c.from_residual.ensures (rest_answers _ c.in-Maximum.is (rest_unread _ c.in_err-g-in-Maximum.ensures))

pub returns-in_ok-g-in-Maximum : goal.returns-in_ok-g-in-Maximum
returns-in_ok-g-in-Maximum c = rest_answers _ c.in-Maximum.is (rest_sealed _ _ _ c.in_ok-g-in-Maximum.ensures c.expect.ensures)
