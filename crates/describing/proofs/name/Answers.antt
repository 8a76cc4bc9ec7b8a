-- `describing::name` meets its contract.
use Rattle.std.proofs.lemmas.Result.{err_from_is_err_and}
use Rattle.describing.proofs.Answering.{name_refused, name_accepted}
use Rattle.describing.proofs.name.Goals as goal

pub returns-in_err-read : goal.returns-in_err-read
returns-in_err-read c =
    let q = err_from_is_err_and c.from_residual.result c.from_residual.ensures.1 in
    rw (q.1, q.2) (name_refused _ _ c.args.name.now c.in_err-read.ensures.refused)

pub returns : goal.returns
returns c = name_accepted _ _ _ _ _ c.in_ok-read.ensures.accepted c.args.name.now _ c.located.ensures
