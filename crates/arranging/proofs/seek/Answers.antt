-- `arranging::seek` meets its contract.
use mathlib.Core.Path.{◌∙◌}
use Rattle.std.proofs.lemmas.Result.{err_from_is_err_and}
use Rattle.arranging.proofs.Answering.{seek_refused, seek_unfit, seek_accepted}
use Rattle.arranging.proofs.seek.Goals as goal

pub returns-in_err-p : goal.returns-in_err-p
returns-in_err-p c =
    let q = err_from_is_err_and c.from_residual.result c.from_residual.ensures.1 in
    rw (q.1, q.2) (seek_refused _ _ c.args.name.now c.args.cells c.in_err-p.ensures.refused)

pub returns-in_err-check_cells : goal.returns-in_err-check_cells
returns-in_err-check_cells c =
    let r = c.from_residual-in_err-check_cells in
    let q = err_from_is_err_and r.result r.ensures.1 in
    rw (q.1, q.2) (seek_unfit _ _ _ _ _ c.in_ok-p.ensures.accepted c.args.name.now c.args.cells _ c.in_err-check_cells.ensures)

pub returns : goal.returns
returns c =
    c.grid_of.ensures ∙ seek_accepted _ _ _ _ _ c.in_ok-p.ensures.accepted c.args.name.now c.args.cells c.in_ok-check_cells.ensures _ c.located.ensures
