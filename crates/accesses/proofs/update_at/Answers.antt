-- `accesses::update_at` meets its contract.
use mathlib.Core.Path.{◌∙◌}
use Prim.Native.Nat.{◌+◌, ◌-◌}
use native.Mathlib.Omega.{arith}
use borrow.Author.Rules.{rules}
use mir.Syntax.{w32}
use mir.Val.{SFits}
use mir.ValLaws.{to_z-of_z}
use lib.ListN.{get_or}
use lib.IntN.{pos}
use Rattle.code.specs.Instr.{perform}
use Rattle.std.specs.Prelude.{ℕ}
use Rattle.operands.specs.declared.Move.TheVariants.{Update}
use Rattle.operands.specs.Performing.{left}
use Rattle.operands.proofs.Pending.{with2_short, with2_taken}
use Rattle.operands.proofs.Performing.{moves, ends, coming_most}
use Rattle.accesses.proofs.update_at.Goals as goal

pub returns-then-depth-lt2 : goal.returns-then-depth-lt2
unfolding perform
returns-then-depth-lt2 c =
    let p = c.requires in
    λ v. ends _ _ _ _ p.size p.most c.stop.ensures (λ go. with2_short _ _ _ c.if-depth-lt2.true)

pub returns : goal.returns
unfolding perform left
returns c =
    let a = c.args in
    let p = c.requires in
    let done = c.at_element-done in
    let i : SFits w32 (get_or a.pending.now (a.depth - 2) (pos 0)) = search rules in
    let x = get_or a.pending.now (a.depth - 2 + 1) (pos 0) in
    let found = rw (to_z-of_z w32 _ i) at (done.ensures (λ (d : ℕ). Update d x) (λ d r h. search rules)) in
    λ v. moves _ _ _ _ p.size done.result (omega (arith, p.most, coming_most done.result)) c.stop-2.ensures
    (λ go. with2_taken _ _ _ (omega arith) ∙ found (go a.place) _)
