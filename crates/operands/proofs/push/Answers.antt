-- `operands::push` meets its contract.
use mathlib.Core.Path.{◌≡◌}
use borrow.Author.Rules.{rules}
use mir.Syntax.{w32}
use mir.Val.{to_z, of_z}
use Rattle.operands.proofs.Pending.{room_in, room_out}
use Rattle.operands.proofs.Performing.{ends, pushes}
use Rattle.operands.proofs.push.Goals as goal

pub returns-then-depth-ge32 : goal.returns-then-depth-ge32
returns-then-depth-ge32 c =
    let p = c.requires in
    ends _ _ _ _ p.size p.most c.stop.ensures (λ go. room_out _ _ _ c.if-depth-ge32.true)

pub returns : goal.returns
returns c =
    let a = c.args in
    let e : to_z w32 (of_z w32 a.x) ≡ a.x = search rules in
    pushes _ _ _ _ c.requires.size _ _ _ c.if-depth-ge32.false c.put.ensures c.go_on.ensures (λ go. rw e (room_in _ _ _ c.if-depth-ge32.false))
