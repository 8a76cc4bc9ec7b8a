-- `operands::compute` meets its contract.
use mathlib.Core.Path.{sym, ◌∙◌, ap}
use mathlib.Core.List.{◌∷◌}
use Prim.Native.Nat.{◌+◌, ◌-◌}
use native.Mathlib.Omega.{arith}
use borrow.Author.Rules.{rules}
use mir.Syntax.{w32}
use mir.Val.{SFits}
use mir.ValLaws.{to_z-of_z}
use lib.ListN.{get_or}
use lib.IntN.{ℤ, pos}
use Rattle.operands.specs.Pending.{pendings}
use Rattle.operands.proofs.Pending.{with2_short, with2_taken}
use Rattle.operands.proofs.Performing.{ends, pushes}
use Rattle.operands.proofs.compute.Goals as goal

pub returns-then-depth-lt2 : goal.returns-then-depth-lt2
returns-then-depth-lt2 g c =
    let p = c.requires.holding in
    λ f is. ends _ _ _ _ p.size p.most c.stop.ensures (λ go. with2_short _ _ _ c.if-depth-lt2.true)

pub returns : goal.returns
returns g c = λ f is.
    let a = c.args in
    let p = c.requires.holding in
    let x : SFits w32 (get_or a.pending.now (a.depth - 2) (pos 0)) = search rules in
    let y : SFits w32 (get_or a.pending.now (a.depth - 2 + 1) (pos 0)) = search rules in
    let r : SFits w32 c.operation-z.result = search rules in
    let given = rw (to_z-of_z w32 _ x, to_z-of_z w32 _ y) at c.operation-z.ensures in
    let e = to_z-of_z w32 _ r ∙ is _ _ x y c.operation-z.result given in
    pushes _ _ _ _ p.size _ _ _ (omega (arith, p.most)) c.put.ensures c.go_on.ensures
    (λ go. with2_taken _ _ _ (omega arith) ∙ ap (λ (z : ℤ). go a.place (z ∷ pendings a.pending.now (a.depth - 2))) (sym e))
