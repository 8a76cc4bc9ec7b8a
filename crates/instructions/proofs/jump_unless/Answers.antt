-- `instructions::jump_unless` meets its contract.
use mathlib.Core.Path.{sym, ◌∙◌}
use Prim.Native.Nat.{◌+◌, ◌-◌, ◌%◌}
use native.Mathlib.Omega.{arith}
use borrow.Author.Rules.{rules}
use mir.Syntax.{w32}
use mir.Val.{SFits}
use lib.ListN.{get_or}
use lib.IntN.{pos}
use Rattle.code.specs.Instr.{perform}
use Rattle.operands.proofs.Pending.{with2_short, with2_taken}
use Rattle.operands.proofs.Performing.{ends, goes, like, branches}
use Rattle.instructions.proofs.jump_unless.Goals as goal

pub returns-then-depth-lt2 : goal.returns-then-depth-lt2
unfolding perform
returns-then-depth-lt2 c =
    let p = c.requires in
    λ v. ends _ _ _ _ p.0.size p.0.most c.stop.ensures (λ go. with2_short _ _ _ c.if-depth-lt2.true)

pub returns-then-holds : goal.returns-then-holds
unfolding perform
returns-then-holds c =
    let a = c.args in
    let p = c.requires in
    let x : SFits w32 (get_or a.pending.now (a.depth - 2) (pos 0)) = search rules in
    let y : SFits w32 (get_or a.pending.now (a.depth - 2 + 1) (pos 0)) = search rules in
    let h = sym c.holds.ensures ∙ c.if-holds.true in
    λ v. goes _ _ _ _ p.0.size _ (omega (arith, p.0.most)) (omega arith) c.go_on.ensures
    (λ go. with2_taken _ _ _ (omega arith) ∙ branches (a.arg % 8) _ _ x y c.relation_of.ensures h)

pub returns : goal.returns
unfolding perform
returns c =
    let a = c.args in
    let x : SFits w32 (get_or a.pending.now (a.depth - 2) (pos 0)) = search rules in
    let y : SFits w32 (get_or a.pending.now (a.depth - 2 + 1) (pos 0)) = search rules in
    let h = sym c.holds.ensures ∙ c.if-holds.false in
    λ v. like a.place _ (λ go. with2_taken _ _ _ (omega arith) ∙ branches (a.arg % 8) _ _ x y c.relation_of.ensures h)
    (c.jump.ensures a.pending.now v c.requires.0.size)
