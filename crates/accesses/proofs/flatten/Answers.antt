-- `accesses::flatten` meets its contract.
use mathlib.Core.Path.{◌≡◌, ◌∙◌, ap}
use Prim.Native.Nat.{suc, ◌+◌, ◌-◌, ◌/◌, ◌%◌, ◌≤◌}
use native.Mathlib.Omega.{arith}
use borrow.Author.Rules.{rules}
use mir.Syntax.{w32}
use mir.Val.{SFits, to_z}
use lib.ListN.{get_or}
use lib.IntN.{pos}
use Rattle.code.specs.Instr.{perform}
use Rattle.std.specs.Prelude.{Some, None}
use Rattle.operands.specs.Performing.{left}
use Rattle.accesses.specs.Cells.{at_cell}
use Rattle.operands.proofs.Pending.{with2_short, with2_taken}
use Rattle.operands.proofs.Performing.{moves, ends, pushes}
use Rattle.accesses.proofs.Subscripts.{place_found, in_grid_below}
use native.Mathlib.Nat.{mul-le-mul}
use mir.ValLaws.{to_z_pos}
use Rattle.accesses.proofs.flatten.Goals as goal

pub returns-then-depth-lt2 : goal.returns-then-depth-lt2
unfolding perform
returns-then-depth-lt2 c =
    let p = c.requires in
    λ v. ends _ _ _ _ p.size p.most c.stop.ensures (λ go. with2_short _ _ _ c.if-depth-lt2.true)

pub overflow_cast-c : goal.overflow_cast-c
overflow_cast-c c =
    let arg = c.args.arg in
    let m : arg % 8192 ≤ 8191 = omega arith in
    let n : arg / 8192 % 8192 ≤ 8191 = omega arith in
    record { sfits = omega (arith, in_grid_below _ _ _ _ _ c.in-Some.ensures, mul-le-mul m n) }

pub overflow_add-c : goal.overflow_add-c
overflow_add-c c = record { fits = omega (arith, (overflow_cast-c c).sfits) }

pub returns-in-None : goal.returns-in-None
unfolding perform left at_cell
returns-in-None c =
    let a = c.args in
    let p = c.requires in
    let i : SFits w32 (get_or a.pending.now (a.depth - 2) (pos 0)) = search rules in
    let j : SFits w32 (get_or a.pending.now (a.depth - 2 + 1) (pos 0)) = search rules in
    λ v. moves _ _ _ _ p.size _ (omega (arith, p.most)) c.fault.ensures
    (λ go. with2_taken _ _ _ (omega arith) ∙ place_found _ _ _ _ _ None _ i j c.in-None.ensures)

pub returns-in-Some : goal.returns-in-Some
unfolding perform at_cell
returns-in-Some c =
    let a = c.args in
    let p = c.requires in
    let n = c.in-Some.c in
    let i : SFits w32 (get_or a.pending.now (a.depth - 2) (pos 0)) = search rules in
    let j : SFits w32 (get_or a.pending.now (a.depth - 2 + 1) (pos 0)) = search rules in
    let f : to_z w32 (n + 1) ≡ pos (suc n) = to_z_pos w32 (n + 1) (omega (arith, (overflow_cast-c c.before.before).sfits)) ∙ ap pos (omega arith) in
    λ v. pushes _ _ _ _ p.size _ _ _ (omega (arith, p.most)) c.put.ensures c.go_on.ensures
    (λ go. rw f (with2_taken _ _ _ (omega arith) ∙ place_found _ _ _ _ _ (Some n) _ i j c.in-Some.ensures))
