-- `operands::settle` meets its contract.
use mathlib.Core.Path.{◌≡◌}
use native.Mathlib.Omega.{arith}
use borrow.Author.Rules.{rules}
use mir.Syntax.{w32}
use mir.Val.{to_z, of_z}
use Rattle.std.specs.Prelude.{ℤ, Option, Some, None}
use Rattle.operands.specs.Performing.{left, with_quotient}
use Rattle.operands.proofs.Performing.{moves, pushes}
use Rattle.operands.proofs.settle.Goals as goal

pub returns-in-Some : goal.returns-in-Some
unfolding with_quotient
returns-in-Some c =
    let p = c.requires in
    let e : c.args.quotient ≡ Some c.in-Some.z = cc in
    let f : to_z w32 (of_z w32 c.in-Some.z) ≡ c.in-Some.z = search rules in
    pushes _ _ _ _ p.0 _ _ _ p.1 c.put.ensures c.go_on.ensures (λ go. rw (e, f))

pub returns-in-None : goal.returns-in-None
unfolding with_quotient left
returns-in-None c =
    let e : ◌≡◌ {A = Option ℤ} c.args.quotient None = cc in
    moves _ _ _ _ c.requires.0 _ (omega arith) c.fault.ensures (λ go. rw e)
