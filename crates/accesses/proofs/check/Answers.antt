-- `accesses::check` meets its contract.
use mathlib.Core.Path.{◌∙◌, ap}
use Prim.Native.Nat.{◌-◌}
use native.Mathlib.Omega.{arith}
use borrow.Author.Rules.{rules}
use mir.Syntax.{w32}
use mir.Val.{SFits}
use lib.ListN.{get_or}
use lib.IntN.{pos}
use Rattle.code.specs.Instr.{perform}
use Rattle.std.specs.Prelude.{Some, None}
use Rattle.operands.specs.Performing.{left}
use Rattle.accesses.specs.Cells.{at_cell}
use Rattle.operands.proofs.Pending.{pendings_top, with1_short, with1_taken}
use Rattle.operands.proofs.Performing.{moves, ends, goes}
use Rattle.accesses.proofs.Subscripts.{located_found}
use Rattle.accesses.proofs.check.Goals as goal

pub returns-then-depth-lt1 : goal.returns-then-depth-lt1
unfolding perform
returns-then-depth-lt1 c =
    let p = c.requires in
    λ v. ends _ _ _ _ p.size p.most c.stop.ensures (λ go. with1_short _ _ _ c.if-depth-lt1.true)

pub returns-in-Some : goal.returns-in-Some
unfolding perform at_cell
returns-in-Some c =
    let a = c.args in
    let p = c.requires in
    let i : SFits w32 (get_or a.pending.now (a.depth - 1) (pos 0)) = search rules in
    λ v. goes _ _ _ _ p.size _ p.most (omega arith) c.go_on.ensures
    (λ go. with1_taken _ _ _ (omega arith) ∙ located_found _ _ _ _ (Some c.in-Some.field-0) _ i c.in-Some.ensures
    ∙ ap (go a.place) (pendings_top _ _ (omega arith)))

pub returns-in-None : goal.returns-in-None
unfolding perform left at_cell
returns-in-None c =
    let a = c.args in
    let p = c.requires in
    let i : SFits w32 (get_or a.pending.now (a.depth - 1) (pos 0)) = search rules in
    λ v. moves _ _ _ _ p.size _ (omega (arith, p.most)) c.fault.ensures
    (λ go. with1_taken _ _ _ (omega arith) ∙ located_found _ _ _ _ None _ i c.in-None.ensures)
