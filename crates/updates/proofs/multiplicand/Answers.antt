-- `updates::multiplicand` meets its contract: what is emitted lies after the place.
use mathlib.Core.Path.{◌∙◌}
use Prim.Native.Nat.{◌-◌, ◌*◌, ◌≤◌}
use native.Mathlib.Omega.{arith}
use lib.ListN.{length, length-take, length-drop}
use borrow.Rule.Slice.PartMut.{take_put}
use Rattle.syntax.specs.Bytes.{bytes}
use Rattle.lexer.proofs.InTurn.{stands_onward}
use Rattle.updates.proofs.Products.{product_unread, product_unstarred, product_untimed, product_found}
use Rattle.updates.proofs.multiplicand.Goals as goal

pub returns-in_err-g : goal.returns-in_err-g
returns-in_err-g c = rw c.from_residual.ensures (product_unread _ _ _ _ _ _ _ c.in_err-g.ensures.kept c.in_err-g.ensures)

pub returns-in_err-at : goal.returns-in_err-at
returns-in_err-at c =
    rw c.from_residual-in_err-at.ensures (product_unstarred _ _ _ _ _ _ _ c.in_ok-g.ensures.kept _ c.in_ok-g.ensures c.in_err-at.ensures)

pub only_times-requires : goal.only_times-requires
only_times-requires c =
    let w = c.in_ok-g.ensures.past in
    let k = stands_onward (bytes "*") c.in_ok-at.ensures (omega arith) in record {
      ready = record {
        inside = c.in_ok-at.ensures.within;
        shallow = omega arith;
        short = c.requires.ready.short;
        room = simp (length-take, length-drop) (omega (arith, c.requires.ready.room, c.repeats.auto.code, w.after, k, c.in_ok-at.ensures.within));
      };
      line_bound = c.requires.end_in_bounds.1;
    }

pub returns-then-only_times : goal.returns-then-only_times
returns-then-only_times c =
    let a = c.args in
    let room : 2 * a.left.place ≤ length c.repeats.new.code = omega (arith, c.requires.ready.room, c.repeats.auto.code) in
    let kept = take_put (2 * a.left.place) (length c.repeats.new.code - 2 * a.left.place)
    c.repeats.new.code c.only_times.new.code room ∙ c.in_ok-g.ensures.kept in
    product_found _ _ _ _ _ _ _ kept _ c.in_ok-g.ensures c.in_ok-at.ensures c.only_times.ensures c.if-only_times.true

pub returns-else-only_times : goal.returns-else-only_times
returns-else-only_times c =
    let a = c.args in
    let room : 2 * a.left.place ≤ length c.repeats.new.code = omega (arith, c.requires.ready.room, c.repeats.auto.code) in
    let kept = take_put (2 * a.left.place) (length c.repeats.new.code - 2 * a.left.place)
    c.repeats.new.code c.only_times.new.code room ∙ c.in_ok-g.ensures.kept in
    product_untimed _ _ _ _ _ _ _ kept _ c.in_ok-g.ensures c.in_ok-at.ensures c.only_times.ensures c.if-only_times.false
