-- `checking::load` meets its contract.
use Rattle.std.proofs.lemmas.Result.{err_from_is_err_and}
use Rattle.checking.proofs.Answering.{load_refused, load_unfit, few_cells, load_done}
use Rattle.checking.proofs.load.Goals as goal

pub returns-in_err-p : goal.returns-in_err-p
returns-in_err-p c =
    let q = err_from_is_err_and c.from_residual.result c.from_residual.ensures.1 in
    let both = load_refused _ _ c.args.cells.now c.in_err-p.ensures.refused in
    record { value = rw (q.1, q.2) both.0; cells_after = both.1 }

pub returns-in_err-check_cells : goal.returns-in_err-check_cells
returns-in_err-check_cells c =
    let r = c.from_residual-in_err-check_cells in
    let q = err_from_is_err_and r.result r.ensures.1 in
    let both = load_unfit _ _ _ _ _ c.in_ok-p.ensures.accepted c.args.cells.now _ c.in_err-check_cells.ensures in
    record { value = rw (q.1, q.2) both.0; cells_after = both.1 }

pub shared_ref_as_front-copy_from_slice : goal.shared_ref_as_front-copy_from_slice
shared_ref_as_front-copy_from_slice c = few_cells _ _ _ _ _ c.in_ok-p.ensures.accepted c.args.cells.now c.in_ok-check_cells.ensures

pub returns : goal.returns
returns c =
    let both = load_done _ _ _ _ _ c.in_ok-p.ensures.accepted c.args.cells.now c.in_ok-check_cells.ensures _ c.copy_from_slice.ensures.after in
    record { value = both.0; cells_after = both.1 }
