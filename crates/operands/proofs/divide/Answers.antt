-- `operands::divide` meets its contract.
use Prim.Native.Nat.{◌+◌, ◌-◌}
use native.Mathlib.Omega.{arith}
use borrow.Author.Rules.{rules}
use mir.Syntax.{w32}
use mir.Val.{SFits}
use mir.ValLaws.{to_z-of_z}
use lib.ListN.{get_or}
use lib.IntN.{pos}
use Rattle.operands.proofs.Pending.{with2_short, with2_taken}
use Rattle.operands.proofs.Performing.{ends, settles}
use Rattle.operands.proofs.divide.Goals as goal

pub returns-then-depth-lt2 : goal.returns-then-depth-lt2
returns-then-depth-lt2 g c =
    let p = c.requires.holding in
    λ f is. ends _ _ _ _ p.size p.most c.stop.ensures (λ go. with2_short _ _ _ c.if-depth-lt2.true)

pub returns : goal.returns
returns g c = λ f is.
    let a = c.args in
    let x : SFits w32 (get_or a.pending.now (a.depth - 2) (pos 0)) = search rules in
    let y : SFits w32 (get_or a.pending.now (a.depth - 2 + 1) (pos 0)) = search rules in
    let given = rw (to_z-of_z w32 _ x, to_z-of_z w32 _ y) at c.division-quotient.ensures in
    settles _ _ _ _ _ _ f _ _ (is _ _ x y c.division-quotient.result given) c.settle.ensures (λ go. with2_taken _ _ _ (omega arith))
