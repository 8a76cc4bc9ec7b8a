-- `looking::look` meets its contract.
use native.Mathlib.Omega.{arith}
use Rattle.std.proofs.lemmas.Result.{err_from_is_err_and}
use Rattle.preparing.proofs.Beginning.{few_cells, can_try}
use Rattle.looking.proofs.Answering.{look_refused, look_view, look_done}
use Rattle.looking.proofs.look.Goals as goal

pub returns-in_err-r : goal.returns-in_err-r
returns-in_err-r c =
    let a = c.args in
    let q = err_from_is_err_and c.from_residual.result c.from_residual.ensures.1 in
    let both = look_refused a.text.now a.cells.now a.workspace.now a.schedule.now a.view.now _ c.in_err-r.ensures.refused in
    record { value = rw (q.1, q.2) both.0; view_after = both.1.0; workspace_after = both.1.1 }

pub returns-then-view-cells : goal.returns-then-view-cells
returns-then-view-cells c =
    let a = c.args in
    let both = look_view a.text.now a.cells.now a.workspace.now a.schedule.now a.view.now _ _ _ c.in_ok-r.ensures.ready c.if-view-cells.true in
    record { value = rw c.of_lent.ensures both.0; view_after = both.1.0; workspace_after = both.1.1 }

pub show_copied-requires : goal.show_copied-requires
show_copied-requires c = (
  can_try _ c.args.cells.now _ _ _ _ _ c.in_ok-r.ensures.ready,
  c.if-view-cells.false,
  omega (arith, few_cells _ c.args.cells.now _ _ _ _ _ c.in_ok-r.ensures.ready),
)

pub returns : goal.returns
returns c =
    let a = c.args in
    let s = c.show_copied.ensures in
    let both = look_done a.text.now a.cells.now a.workspace.now a.schedule.now a.view.now _ _ _ c.in_ok-r.ensures.ready c.if-view-cells.false _ _
    s.shows_after s.w_after in
    record { value = both.0; view_after = both.1.0; workspace_after = both.1.1 }
