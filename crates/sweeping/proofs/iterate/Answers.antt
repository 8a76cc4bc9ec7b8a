-- `sweeping::iterate` meets its contract.
use mathlib.Core.Path.{refl, ◌∙◌}
use mathlib.Core.Logic.{inl}
use Rattle.stepping.specs.Step.{scene}
use Rattle.stepping.specs.Carrying.{Does}
use Rattle.stepping.proofs.Opened.{opened_yes}
use Rattle.stepping.proofs.Nearing.{goes_nearer}
use Rattle.sweeping.proofs.Stepping.{still_under, now_after, can_step, step_open, step_noted, step_went}
use Rattle.sweeping.proofs.Ends.{iterate_start}
use Rattle.sweeping.proofs.iterate.Goals as goal

pub loop-t-init : goal.loop-t-init
loop-t-init c =
    let a = c.args in (
      refl,
      refl,
      refl,
      λ v l s low b.
          rw c.unstopped_at-t.ensures
          (inl (iterate_start l a.i.0 a.cells.now a.w.now a.rows.now a.list.now a.code.now a.role v s low b _ refl)),
    )

pub carry_on-r-requires : goal.carry_on-r-requires
carry_on-r-requires c =
    let a = c.args in
    let (v, l, s, low, b) = c.requires in
    let q = c.loop-t in
    let z = scene q.cells q.w q.pending q.t in
    let u = still_under a.code.now v l a.i.0 a.list.now q.rows q.over z c.loop-t-test.true (q.invariant.3 v l s low b) in
    can_step a.code.now a.role v l a.i.0 a.list.now q.rows q.over z s low u

pub note-over-requires : goal.note-over-requires
unfolding Does
note-over-requires c =
    let a = c.args in
    let (v, l, s, low, b) = c.requires in
    let q = c.loop-t in
    let z = scene q.cells q.w q.pending q.t in
    let u = still_under a.code.now v l a.i.0 a.list.now q.rows q.over z c.loop-t-test.true (q.invariant.3 v l s low b) in
    step_noted a.code.now a.role v l a.i.0 a.list.now q.rows q.over z s low u _ _
    (c.carry_on-r.ensures.does (step_open a.code.now a.role v l a.i.0 a.list.now q.rows q.over z s low u))

pub loop-t-smaller : goal.loop-t-smaller
unfolding Does
loop-t-smaller c =
    let a = c.args in
    let (v, l, s, low, b) = c.requires in
    let q = c.loop-t in
    let z = scene q.cells q.w q.pending q.t in
    let u = still_under a.code.now v l a.i.0 a.list.now q.rows q.over z c.loop-t-test.true (q.invariant.3 v l s low b) in
    let o = step_open a.code.now a.role v l a.i.0 a.list.now q.rows q.over z s low u in
    let y = opened_yes q.t a.role.end.0 o in
    goes_nearer a.role a.code.now _ _ (c.carry_on-r.ensures.does o).goes a.role.end.0 y.0 y.1

pub loop-t-preserved : goal.loop-t-preserved
unfolding Does
loop-t-preserved c =
    let a = c.args in
    let q = c.loop-t in
    let z = scene q.cells q.w q.pending q.t in (
      c.carry_on-r.auto.cells ∙ q.invariant.0,
      c.carry_on-r.auto.w ∙ q.invariant.1,
      c.note-over.auto.rows ∙ q.invariant.2,
      λ v l s low b.
          let u = still_under a.code.now v l a.i.0 a.list.now q.rows q.over z c.loop-t-test.true (q.invariant.3 v l s low b) in
          step_went a.code.now a.role v l a.i.0 a.list.now q.rows q.over z s low u _ _
          (c.carry_on-r.ensures.does (step_open a.code.now a.role v l a.i.0 a.list.now q.rows q.over z s low u)) _ _
          c.note-over.ensures,
    )

pub shape_of-cells : goal.shape_of-cells
shape_of-cells c =
    c.loop-t.invariant.0

pub shape_of-w : goal.shape_of-w
shape_of-w c =
    c.loop-t.invariant.1

pub shape_of-rows : goal.shape_of-rows
shape_of-rows c =
    c.loop-t.invariant.2

pub returns : goal.returns
returns c = λ v l s low b.
    let a = c.args in
    let q = c.loop-t in
    now_after a.code.now v l a.i.0 a.list.now q.rows q.over (scene q.cells q.w q.pending q.t) c.loop-t-test.false
    (q.invariant.3 v l s low b)
