-- `checking::check` meets its contract.
use Rattle.std.proofs.lemmas.Result.{err_from_is_err_and}
use Rattle.checking.proofs.Answering.{check_refused, check_accepted}
use Rattle.checking.proofs.check.Goals as goal

pub returns-in_err-p : goal.returns-in_err-p
returns-in_err-p c =
    let q = err_from_is_err_and c.from_residual.result c.from_residual.ensures.1 in
    rw (q.1, q.2) (check_refused _ _ c.in_err-p.ensures.refused)

pub returns : goal.returns
returns c = check_accepted _ _ _ _ _ c.in_ok-p.ensures.accepted
