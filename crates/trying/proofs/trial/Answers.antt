-- `trying::trial` meets its contract.
use native.Mathlib.Omega.{arith}
use Rattle.std.proofs.lemmas.Result.{err_from_is_err_and}
use Rattle.preparing.proofs.Beginning.{can_try}
use Rattle.trying.proofs.Trying.{try_refused, stands_there, try_done}
use Rattle.trying.proofs.trial.Goals as goal

pub returns-in_err-r : goal.returns-in_err-r
returns-in_err-r c =
    let a = c.args in
    let q = err_from_is_err_and c.from_residual.result c.from_residual.ensures.1 in
    rw (q.1, q.2) (try_refused a.text.now a.cells.now a.workspace.now a.schedule.now _ c.in_err-r.ensures.refused)

pub trial-workers-requires : goal.trial-workers-requires
trial-workers-requires c = can_try _ c.args.cells.now _ _ _ _ _ c.in_ok-r.ensures.ready

pub is_faulty-requires : goal.is_faulty-requires
is_faulty-requires c =
    let p = c.in_ok-r.ensures.ready.prepares in omega (arith, p.processors, p.few_processors)

pub is_obstructed-requires : goal.is_obstructed-requires
is_obstructed-requires c =
    let a = c.args in
    stands_there a.text.now a.cells.now a.workspace.now a.schedule.now _ _ _ c.in_ok-r.ensures.ready _ _ _ c.trial-workers.ensures.tries

pub returns : goal.returns
returns c =
    let a = c.args in
    let t = c.trial-workers.ensures in
    try_done a.text.now a.cells.now a.workspace.now a.schedule.now _ _ _ c.in_ok-r.ensures.ready _ _ _ _ _ t.tries t.all_over c.is_faulty.ensures
    c.is_obstructed.ensures
