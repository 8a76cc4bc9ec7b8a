-- `updates::closes` meets its contract: what is emitted lies after the place.
use Prim.Native.Nat.{◌-◌, ◌*◌, ◌≤◌}
use native.Mathlib.Omega.{arith}
use lib.ListN.{length}
use borrow.Rule.Slice.PartMut.{take_put}
use Rattle.updates.proofs.Parts.{closed_unread, closed_unsealed, closed_after}
use Rattle.updates.proofs.closes.Goals as goal

pub returns-in_default : goal.returns-in_default
returns-in_default c =
    let a = c.args in
    let room : 2 * a.left.place ≤ length a.code.now = omega (arith, c.requires.ready.room) in
    let kept = take_put (2 * a.left.place) (length a.code.now - 2 * a.left.place) a.code.now c.expression.new.code room in
    record { closed = closed_unread _ _ _ _ _ _ c.in_default.ensures; code_unchanged = kept }

pub returns-in-Some-expect : goal.returns-in-Some-expect
returns-in-Some-expect c =
    let a = c.args in
    let room : 2 * a.left.place ≤ length a.code.now = omega (arith, c.requires.ready.room) in
    let kept = take_put (2 * a.left.place) (length a.code.now - 2 * a.left.place) a.code.now c.expression.new.code room in
    record { closed = closed_after _ _ _ _ _ _ _ c.in-Some.ensures _ c.in-Some-expect.ensures c.ended.ensures; code_unchanged = kept }

pub returns-in-None : goal.returns-in-None
returns-in-None c =
    let a = c.args in
    let room : 2 * a.left.place ≤ length a.code.now = omega (arith, c.requires.ready.room) in
    let kept = take_put (2 * a.left.place) (length a.code.now - 2 * a.left.place) a.code.now c.expression.new.code room in
    record { closed = closed_unsealed _ _ _ _ _ _ _ c.in-Some.ensures c.in-None.ensures; code_unchanged = kept }
