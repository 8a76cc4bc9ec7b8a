-- `stepping::carry_on` meets its contract: the loop has come to where steps lead, and is still at the start where only one is to be made.
use mathlib.Core.Path.{◌≡◌, refl, sym, ◌∙◌}
use Rattle.stepping.specs.declared.Extent.TheVariants.{Once, ToTheEnd}
use Rattle.stepping.specs.Carrying.{start, on}
use Rattle.stepping.proofs.Opened.{opened_yes}
use Rattle.stepping.proofs.Nearing.{goes_nearer}
use Rattle.stepping.proofs.Carried.{never, carried_once, carried_over, does_once, does_over}
use Rattle.stepping.proofs.carry_on.Goals as goal

pub loop-role-init : goal.loop-role-init
loop-role-init c = (refl, refl, start, λ e. refl)

pub go_on-r-requires : goal.go_on-r-requires
go_on-r-requires c =
    let u = c.loop-role in
    c.requires _ u.invariant.2 (sym c.is_open.ensures ∙ c.loop-role-test.true)

pub returns-in-Once : goal.returns-in-Once
returns-in-Once c =
    let a = c.args in
    let u = c.loop-role in
    let o = sym c.is_open.ensures ∙ c.loop-role-test.true in
    let w = c.go_on-r.ensures in
    let q : a.extent ≡ Once = c.in-Once.is in record {
      carries = carried_once a.role a.code.now _ _ a.extent q (u.invariant.3 q) o _ w.goes;
      does = does_once a.role a.code.now _ _ _ _ a.extent q (u.invariant.3 q) w;
    }

pub loop-role-smaller : goal.loop-role-smaller
loop-role-smaller c =
    let a = c.args in
    let u = c.loop-role in
    let o = sym c.is_open.ensures ∙ c.loop-role-test.true in
    let w = c.go_on-r.ensures in
    let y = opened_yes u.t a.role.end.0 o in
    goes_nearer a.role a.code.now _ _ w.goes a.role.end.0 y.0 y.1

pub loop-role-preserved : goal.loop-role-preserved
loop-role-preserved c =
    let a = c.args in
    let u = c.loop-role in
    let o = sym c.is_open.ensures ∙ c.loop-role-test.true in
    let w = c.go_on-r.ensures in
    let q : a.extent ≡ ToTheEnd = c.in-ToTheEnd.is in (
      c.go_on-r.auto.cells ∙ u.invariant.0,
      c.go_on-r.auto.w ∙ u.invariant.1,
      on u.invariant.2 o w.goes,
      λ e. absurd (never e q),
    )

pub returns : goal.returns
returns c =
    let a = c.args in
    let u = c.loop-role in
    let o = sym c.is_open.ensures ∙ c.loop-role-test.false in record {
      carries = carried_over a.role a.code.now _ _ a.extent u.invariant.3 u.invariant.2 o;
      does = does_over a.role a.code.now _ _ _ a.extent u.invariant.3 o;
    }
