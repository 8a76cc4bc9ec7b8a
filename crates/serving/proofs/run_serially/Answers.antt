-- `serving::run_serially` meets its contract.
use mathlib.Core.Path.{◌≡◌}
use native.Mathlib.Omega.{arith}
use mir.Syntax.{w32}
use mir.Val.{to_z, of_z}
use Rattle.std.proofs.lemmas.Result.{err_from_is_err_and}
use Rattle.serving.proofs.Serially.{serial_refused, can_serve, words_two, serial_done, value_fits, serial_fault, with_numbers}
use borrow.Author.Rules.{rules}
use Rattle.serving.proofs.run_serially.Goals as goal

pub returns-in_err-r : goal.returns-in_err-r
returns-in_err-r c =
    let a = c.args in
    let q = err_from_is_err_and c.from_residual.result c.from_residual.ensures.1 in
    let both = with_numbers _ _ _ _ _ _ (serial_refused a.text.now a.cells.now a.workspace.now _ c.in_err-r.ensures.refused) in
    record { serial_of = rw (q.1, q.2) both.0; result_value = rw (q.1, q.2) both.1 }

pub run-t-requires : goal.run-t-requires
run-t-requires c =
    let a = c.args in
    can_serve a.text.now a.cells.now a.workspace.now _ _ _ c.in_ok-r.ensures.ready

pub pair_count-requires : goal.pair_count-requires
pair_count-requires c =
    let a = c.args in
    omega (arith, words_two a.text.now a.cells.now a.workspace.now _ _ _ c.in_ok-r.ensures.ready, c.run-t.auto.w)

pub cell_count-requires : goal.cell_count-requires
cell_count-requires c =
    let a = c.args in
    omega (arith, words_two a.text.now a.cells.now a.workspace.now _ _ _ c.in_ok-r.ensures.ready, c.run-t.auto.w)

pub returns-in-None : goal.returns-in-None
returns-in-None c =
    let a = c.args in
    let both = with_numbers _ _ _ _ _ _
    (serial_done a.text.now a.cells.now a.workspace.now _ _ _ c.in_ok-r.ensures.ready _ _ _ c.run-t.ensures c.in-None.is _ _ c.pair_count.ensures
    c.cell_count.ensures) in
    record { serial_of = both.0; result_value = both.1 }

pub value_at-requires : goal.value_at-requires
value_at-requires c =
    let a = c.args in
    let m = c.in_ok-r.r.setting.from in
    let e : to_z w32 (of_z w32 m) ≡ m = search rules in
    value_fits a.text.now a.cells.now a.workspace.now _ _ _ c.in_ok-r.ensures.ready _ _ _ c.run-t.ensures _ c.in-Some.is _ e

pub returns-in-Some : goal.returns-in-Some
returns-in-Some c =
    let a = c.args in
    let m = c.in_ok-r.r.setting.from in
    let e : to_z w32 (of_z w32 m) ≡ m = search rules in
    let u : to_z w32 (of_z w32 c.value_at.result) ≡ c.value_at.result = search rules in
    let both = with_numbers _ _ _ _ _ _
    (serial_fault a.text.now a.cells.now a.workspace.now _ _ _ c.in_ok-r.ensures.ready _ _ _ c.run-t.ensures _ c.in-Some.is _ _ _ e
    c.value_at.ensures u) in
    record { serial_of = both.0; result_value = both.1 }
