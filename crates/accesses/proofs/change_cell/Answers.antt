-- `accesses::change_cell` meets its contract.
use mathlib.Core.Path.{sym, ◌∙◌, ap}
use Prim.Native.Nat.{◌-◌}
use native.Mathlib.Omega.{arith}
use borrow.Author.Rules.{rules}
use mir.Syntax.{w32}
use mir.Val.{SFits}
use mir.ValLaws.{to_z-of_z}
use lib.ListN.{get_or}
use lib.IntN.{pos}
use Rattle.operands.specs.declared.Move.{Move}
use Rattle.operands.specs.Pending.{pendings}
use Rattle.operands.specs.Performing.{left}
use Rattle.operands.proofs.Pending.{with1_short, with1_taken}
use Rattle.operands.proofs.Performing.{moves, ends, coming_most}
use Rattle.accesses.proofs.change_cell.Goals as goal

pub returns-then-depth-lt1 : goal.returns-then-depth-lt1
returns-then-depth-lt1 g c =
    let p = c.requires.holding in
    λ m is. ends _ _ _ _ p.size p.most c.stop.ensures (λ go. with1_short _ _ _ c.if-depth-lt1.true)

pub returns : goal.returns
returns g c = λ m is.
    let a = c.args in
    let p = c.requires.holding in
    let done = c.change-done in
    let x : SFits w32 (get_or a.pending.now (a.depth - 1) (pos 0)) = search rules in
    let given = rw (to_z-of_z w32 _ x) at done.ensures in
    let e = is _ x done.result given in
    moves _ _ _ _ p.size done.result (omega (arith, p.most, coming_most done.result)) c.stop-2.ensures
    (λ go. with1_taken _ _ _ (omega arith) ∙ ap (λ (r : Move). left r (go a.place) (pendings a.pending.now (a.depth - 1))) (sym e))
