-- `updates::repeats` meets its contract: what is emitted lies after the place.
use Prim.Native.Nat.{◌-◌, ◌*◌, ◌≤◌}
use native.Mathlib.Omega.{arith}
use lib.ListN.{length}
use borrow.Rule.Slice.PartMut.{take_put}
use Rattle.updates.proofs.Parts.{repeated_unread, repeated_other, repeated_found}
use Rattle.updates.proofs.repeats.Goals as goal

pub returns-in_err-g : goal.returns-in_err-g
returns-in_err-g c =
    let a = c.args in
    let room : 2 * a.left.place ≤ length a.code.now = omega (arith, c.requires.ready.room) in
    let kept = take_put (2 * a.left.place) (length a.code.now - 2 * a.left.place) a.code.now c.reference.new.code room in
    rw c.from_residual.ensures (repeated_unread _ _ _ _ _ _ _ kept _ _ _ c.in_err-g.ensures)

pub returns-then-alike : goal.returns-then-alike
returns-then-alike c =
    let a = c.args in
    let room : 2 * a.left.place ≤ length a.code.now = omega (arith, c.requires.ready.room) in
    let kept = take_put (2 * a.left.place) (length a.code.now - 2 * a.left.place) a.code.now c.reference.new.code room in
    repeated_found _ _ _ _ _ _ _ kept _ _ _ _ c.in_ok-g.ensures c.alike.ensures c.if-alike.true

pub returns-else-alike : goal.returns-else-alike
returns-else-alike c =
    let a = c.args in
    let room : 2 * a.left.place ≤ length a.code.now = omega (arith, c.requires.ready.room) in
    let kept = take_put (2 * a.left.place) (length a.code.now - 2 * a.left.place) a.code.now c.reference.new.code room in
    repeated_other _ _ _ _ _ _ _ kept _ _ _ _ c.in_ok-g.ensures c.alike.ensures c.if-alike.false
