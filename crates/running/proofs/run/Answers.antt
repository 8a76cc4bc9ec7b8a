-- `running::run` meets its contract.
use mathlib.Core.Path.{sym, ◌∙◌, ap}
use Prim.Native.Nat.{ℕ}
use native.Mathlib.Omega.{arith}
use lib.ListN.{replicate}
use Rattle.std.proofs.lemmas.Result.{err_from_is_err_and}
use Rattle.running.proofs.Settling.{run_refused, stands_so, can_restore, words_two, run_keeps, can_conclude, run_concludes}
use Rattle.running.proofs.run.Goals as goal

pub returns-in_err-t : goal.returns-in_err-t
returns-in_err-t c =
    let a = c.args in
    let q = err_from_is_err_and c.from_residual.result c.from_residual.ensures.1 in
    let both = run_refused a.text.now a.cells.now a.workspace.now a.schedule.now _ _ _ c.in_err-t.ensures in
    record { value = rw (q.1, q.2) both.0; cells_after = both.1.0; workspace_after = both.1.1 }

pub restore-requires : goal.restore-requires
restore-requires c =
    let a = c.args in
    can_restore a.text.now a.cells.now a.workspace.now a.schedule.now _ _ _ c.in_ok-t.ensures

pub conclude-requires : goal.conclude-requires
conclude-requires c =
    let a = c.args in
    can_conclude a.text.now a.cells.now a.workspace.now a.schedule.now _ _ _ c.in_ok-t.ensures _ c.restore.ensures c.trial.auto.workspace _ _ _
    c.run_serially-served.ensures.serial_of

pub returns-then-is_rejected : goal.returns-then-is_rejected
returns-then-is_rejected c =
    let a = c.args in
    let both = run_concludes a.text.now a.cells.now a.workspace.now a.schedule.now _ _ _ c.in_ok-t.ensures _ c.restore.ensures
    c.trial.auto.workspace _ _ _ c.run_serially-served.ensures.serial_of (sym c.is_rejected.ensures ∙ c.if-is_rejected.true)
    c.run_serially-served.auto.workspace _ _ _ c.conclude.ensures in
    record { value = both.0; cells_after = both.1.0; workspace_after = both.1.1 }

pub merge-requires : goal.merge-requires
merge-requires c =
    let a = c.args in
    stands_so a.text.now a.cells.now a.workspace.now a.schedule.now _ _ _ c.in_ok-t.ensures

pub pair_count-requires : goal.pair_count-requires
pair_count-requires c =
    let a = c.args in
    omega (arith, words_two a.text.now a.cells.now a.workspace.now a.schedule.now _ _ _ c.in_ok-t.ensures, c.trial.auto.workspace)

pub cell_count-requires : goal.cell_count-requires
cell_count-requires c =
    let a = c.args in
    omega (arith, words_two a.text.now a.cells.now a.workspace.now a.schedule.now _ _ _ c.in_ok-t.ensures, c.trial.auto.workspace)

pub returns : goal.returns
returns c =
    let a = c.args in
    let both = run_keeps a.text.now a.cells.now a.workspace.now a.schedule.now _ _ _ c.in_ok-t.ensures
    (sym c.is_rejected.ensures ∙ c.if-is_rejected.false) _ _ _ _ c.merge.ensures c.pair_count.ensures c.cell_count.ensures
    (c.clear.ensures ∙ ap (λ (n : ℕ). replicate n 0) c.trial.auto.workspace) in
    record { value = both.0; cells_after = both.1.0; workspace_after = both.1.1 }
