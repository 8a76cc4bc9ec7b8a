-- `planning::plan` meets its contract.
use native.Mathlib.Omega.{arith}
use mathlib.Core.Path.{◌≡◌, refl}
use lib.ListN.{length}
use Rattle.std.proofs.lemmas.Result.{err_from_is_err_and}
use Rattle.preparing.proofs.Beginning.{few_cells}
use Rattle.planning.proofs.Answering.{plan_refused, plan_list, can_plan, plan_done}
use Rattle.planning.proofs.plan.Goals as goal

pub returns-in_err-r : goal.returns-in_err-r
returns-in_err-r c =
    let a = c.args in
    let q = err_from_is_err_and c.from_residual.result c.from_residual.ensures.1 in
    let both = plan_refused a.text.now a.cells.now a.workspace.now a.list.now _ c.in_err-r.ensures.refused in
    record { value = rw (q.1, q.2) both.0; list_after = both.1.0; workspace_after = both.1.1 }

pub returns-then-list-r : goal.returns-then-list-r
returns-then-list-r c =
    let a = c.args in
    let both = plan_list a.text.now a.cells.now a.workspace.now a.list.now _ _ _ c.in_ok-r.ensures.ready
    (λ (z : length a.list.now ≡ c.in_ok-r.r.setting.iterations). omega (arith, c.if-list-r.true, z)) in
    record { value = rw c.of_lent.ensures both.0; list_after = both.1.0; workspace_after = both.1.1 }

pub stages_of-requires : goal.stages_of-requires
stages_of-requires c =
    let a = c.args in
    let few = few_cells _ a.cells.now _ _ _ _ _ c.in_ok-r.ensures.ready in (
      can_plan a.text.now a.cells.now a.workspace.now a.list.now _ _ _ c.in_ok-r.ensures.ready
          (let z : length a.list.now ≡ c.in_ok-r.r.setting.iterations = omega (arith, c.if-list-r.false) in z),
      omega (arith, few),
      record { zero = refl; room = omega (arith, few) },
    )

pub returns : goal.returns
returns c =
    let a = c.args in
    let both = plan_done a.text.now a.cells.now a.workspace.now a.list.now _ _ _ c.in_ok-r.ensures.ready
    (let z : length a.list.now ≡ c.in_ok-r.r.setting.iterations = omega (arith, c.if-list-r.false) in z) _ _ _ c.stages_of.ensures.plans
    c.stages_of.ensures.w_after in
    record { value = both.0; list_after = both.1.0; workspace_after = both.1.1 }
