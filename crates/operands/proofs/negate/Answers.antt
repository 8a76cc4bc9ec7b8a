-- `operands::negate` meets its contract.
use mathlib.Core.Path.{sym, ◌∙◌, ap}
use mathlib.Core.List.{◌∷◌}
use Prim.Native.Nat.{◌-◌}
use native.Mathlib.Omega.{arith}
use borrow.Author.Rules.{rules}
use mir.Syntax.{w32}
use mir.Val.{SFits}
use mir.ValLaws.{to_z-of_z}
use lib.ListN.{get_or}
use lib.IntN.{ℤ, pos}
use Rattle.int32.specs.Integers.{negation}
use Rattle.int32.proofs.Laws.{landed, negation_fits}
use Rattle.code.specs.Instr.{perform}
use Rattle.operands.specs.Pending.{pendings}
use Rattle.operands.proofs.Pending.{with1_short, with1_taken}
use Rattle.operands.proofs.Performing.{ends, pushes}
use Rattle.operands.proofs.negate.Goals as goal

pub returns-then-depth-lt1 : goal.returns-then-depth-lt1
unfolding perform
returns-then-depth-lt1 c =
    let p = c.requires in
    λ v. ends _ _ _ _ p.size p.most c.stop.ensures (λ go. with1_short _ _ _ c.if-depth-lt1.true)

pub returns : goal.returns
unfolding perform
returns c =
    let a = c.args in
    let p = c.requires in
    let x : SFits w32 (get_or a.pending.now (a.depth - 1) (pos 0)) = search rules in
    let e = landed (c.negate-z.ensures ∙ ap negation (to_z-of_z w32 _ x)) (negation_fits _) in
    λ v. pushes _ _ _ _ p.size _ _ _ (omega (arith, p.most)) c.put.ensures c.go_on.ensures
    (λ go. with1_taken _ _ _ (omega arith) ∙ ap (λ (z : ℤ). go a.place (z ∷ pendings a.pending.now (a.depth - 1))) (sym e))
