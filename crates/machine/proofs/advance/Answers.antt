-- `machine::advance` meets its contract: what is done from the place that the loop has reached is what is done from the first.
use mathlib.Core.Path.{◌≡◌, ◌∙◌}
use native.Mathlib.Omega.{arith}
use borrow.Author.Rules.{rules}
use mir.Syntax.{w32}
use mir.Val.{to_z, of_z}
use Rattle.std.specs.Prelude.{Option, Some, None}
use Rattle.operands.specs.declared.Move.{Move}
use Rattle.operands.specs.Performing.{left, then}
use Rattle.machine.proofs.Resuming.{from_past, from_performed, accesses_most}
use Rattle.machine.proofs.advance.Goals as goal

pub loop-at-preserved : goal.loop-at-preserved
unfolding then
loop-at-preserved c =
    let s = c.perform-r in
    let i = c.loop-at.invariant in
    let e : ◌≡◌ {A = Option Move} s.result.next None = c.in_default.is in
    let h = rw e at s.ensures.room in (
      s.ensures.size,
      omega arith,
      omega (arith, s.ensures.forward),
      i.3 ∙ from_performed _ _ c.loop-at.at _ _ _ _ (omega arith) s.ensures ∙ rw e,
    )

pub returns-in-Some : goal.returns-in-Some
unfolding then
returns-in-Some c =
    let a = c.args in
    let s = c.perform-r in
    let i = c.loop-at.invariant in
    let m = c.in-Some.done in
    let e : s.result.next ≡ Some m = cc in
    let f : to_z w32 (of_z w32 a.v) ≡ a.v = search rules in
    record {
      meaning = rw f at (i.3 ∙ rw e at (from_performed a.code.now (to_z w32 (of_z w32 a.v)) c.loop-at.at _ _ _ _ (omega arith) s.ensures));
      size = s.ensures.size;
      room = rw e at s.ensures.room;
      forward = omega (arith, s.ensures.forward, accesses_most m);
      inside = omega (arith, accesses_most m);
    }

pub returns : goal.returns
unfolding left
returns c =
    let a = c.args in
    let i = c.loop-at.invariant in
    let f : to_z w32 (of_z w32 a.v) ≡ a.v = search rules in
    record {
      meaning = rw f at (i.3 ∙ from_past _ _ c.loop-at.at _ (omega arith));
      size = i.0;
      room = omega arith;
      forward = omega arith;
      inside = omega arith;
    }
