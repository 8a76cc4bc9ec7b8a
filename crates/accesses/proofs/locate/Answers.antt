-- `accesses::locate` meets its contract.
use mathlib.Core.Path.{◌≡◌}
use mathlib.Core.Bool.{true, false}
use native.Mathlib.Omega.{arith}
use borrow.Author.Rules.{rules}
use mir.Syntax.{w32}
use mir.Val.{to_z, of_z}
use lib.IntN.{pos}
use lib.Signed.{lt_z}
use Rattle.accesses.specs.Cells.{at_cell}
use Rattle.accesses.proofs.Subscripts.{located_low, positive, located_far, located_at}
use Rattle.accesses.proofs.locate.Goals as goal

pub returns-then-i-lt1 : goal.returns-then-i-lt1
unfolding at_cell
returns-then-i-lt1 c =
    let a = c.args in
    let e : to_z w32 (of_z w32 a.i) ≡ a.i = search rules in
    let g : lt_z (to_z w32 (of_z w32 a.i)) (pos 1) ≡ true = c.if-i-lt1.true in
    let h : lt_z a.i (pos 1) ≡ true = rw e at g in
    λ line k. located_low line _ _ _ k h

pub overflow_cast-k : goal.overflow_cast-k
overflow_cast-k c =
    let a = c.args in
    let e : to_z w32 (of_z w32 a.i) ≡ a.i = search rules in
    let g : lt_z (to_z w32 (of_z w32 a.i)) (pos 1) ≡ false = c.if-i-lt1.false in
    let h : lt_z a.i (pos 1) ≡ false = rw e at g in
    let p = positive a.i h in
    rw e (p.0, record { fits = omega (arith, c.ranges.i.sfits) })

pub overflow_sub-k : goal.overflow_sub-k
overflow_sub-k c =
    let a = c.args in
    let e : to_z w32 (of_z w32 a.i) ≡ a.i = search rules in
    let g : lt_z (to_z w32 (of_z w32 a.i)) (pos 1) ≡ false = c.if-i-lt1.false in
    let h : lt_z a.i (pos 1) ≡ false = rw e at g in
    rw e (positive a.i h).1

pub returns-then-size-k : goal.returns-then-size-k
unfolding at_cell
returns-then-size-k c =
    let a = c.args in
    let e : to_z w32 (of_z w32 a.i) ≡ a.i = search rules in
    let g : lt_z (to_z w32 (of_z w32 a.i)) (pos 1) ≡ false = c.if-i-lt1.false in
    let h : lt_z a.i (pos 1) ≡ false = rw e at g in
    λ line k. located_far line _ _ _ k h (rw e at c.if-size-k.true)

pub returns : goal.returns
unfolding at_cell
returns c =
    let a = c.args in
    let e : to_z w32 (of_z w32 a.i) ≡ a.i = search rules in
    let g : lt_z (to_z w32 (of_z w32 a.i)) (pos 1) ≡ false = c.if-i-lt1.false in
    let h : lt_z a.i (pos 1) ≡ false = rw e at g in
    λ line k. rw e (located_at line _ _ _ k h (rw e at c.if-size-k.false))
